-- What each store does to the state: one equation for each field of the ledger.
use mathlib.Core.Path.{◌≡◌, refl, sym, ap, ◌∙◌, fun_ext}
use mathlib.Core.Bool.{Bool, true, false, cond}
use mathlib.Core.Logic.{◌⊎◌, inl, inr}
use Prim.Native.Nat.{ℕ, zero, suc, ◌+◌, ◌*◌, ◌≤◌, ◌<◌, ◌/◌, ◌%◌}
use native.Mathlib.Omega.{arith}
use native.Mathlib.Numerals.{add-one}
use lib.Dec.{eqb, ltb, leb}
use mir.Val.{bool_byte as from_bool}
use borrow.Author.Tests.{lt-ltb, lt-leb, ltb-true, leb-true}
use Rattle.model.proofs.Laws.Base.{eq?, lt?, and_true}
use Rattle.model.specs.Base.{sum, upd, upd2}
use Rattle.model.proofs.Laws.Base.{upd_at, upd_other, upd2_at, upd2_other}
use Rattle.model.specs.State.{NOTHING, State, monitor, guests, is_guest, total}
use Rattle.model.specs.Changes.{zeros}
use Rattle.ledger.specs.Columns.{GUEST_ROWS, HEADER, FREE_COUNT, EXISTS, DIRTY, ROOT, YES, KIND, GUEST, HEIGHT, RANGE, CELLS, SHARE_UNIT, FRAME_AT}
use Rattle.ledger.proofs.Laws.Cells.{column_other, upd_map}
use Rattle.ledger.specs.Layout.{kind_at, size_in, first_in, kind_in, per_guest, share_part, count_part, exists_in, dirty_in, root_in, state_in}
use Rattle.ledger.specs.Fields.{remade, with_kind, with_cell, with_share, with_no_shares, with_count, with_existence, with_root_at, with_dirt}

-- What a stored bool says.
yes_stored : (f : ℕ → ℕ) (g : ℕ) (b : Bool) → (λ x. eqb (upd f g (from_bool b) x) YES) ≡ upd (λ x. eqb (f x) YES) g b
yes_stored f g b = upd_map (λ x. eqb x YES) f g (from_bool b) ∙ ap (upd (λ x. eqb (f x) YES) g) (same b)
  where
    same : (b : Bool) → eqb (from_bool b) YES ≡ b
    same true = refl
    same false = refl

-- A guest's row.
module _ (F G w : ℕ → ℕ → ℕ) (g : ℕ) where
  pub state_existence : (b : Bool) → state_in F (upd2 G EXISTS g (from_bool b)) w ≡ with_existence g b (state_in F G w)
  unfolding state_in with_existence remade size_in first_in kind_in exists_in dirty_in root_in upd2 upd
  state_existence b = ap (λ (e : ℕ → Bool). remade (state_in F G w) (kind_in F G) (per_guest share_part F) (per_guest count_part F) e
      (G ROOT) (dirty_in G) w) (yes_stored (G EXISTS) g b)

  pub state_dirt : (b : Bool) → state_in F (upd2 G DIRTY g (from_bool b)) w ≡ with_dirt g b (state_in F G w)
  unfolding state_in with_dirt remade size_in first_in kind_in exists_in dirty_in root_in upd2 upd
  state_dirt b = ap (λ (d : ℕ → Bool). remade (state_in F G w) (kind_in F G) (per_guest share_part F) (per_guest count_part F) (exists_in G)
      (G ROOT) d w) (yes_stored (G DIRTY) g b)

  pub state_root : (t : ℕ) → state_in F (upd2 G ROOT g t) w ≡ with_root_at g t (state_in F G w)
  unfolding state_in with_root_at remade size_in first_in kind_in exists_in dirty_in root_in upd2 upd
  state_root t = refl

-- the number of free frames is no part of the state
pub state_free : (F G w : ℕ → ℕ → ℕ) (v : ℕ) → state_in F (upd2 G FREE_COUNT HEADER v) w ≡ state_in F G w
unfolding state_in size_in first_in kind_in exists_in dirty_in root_in upd2 upd
state_free F G w v = refl

pub guest_range : (g : ℕ) → is_guest g ≡ true → (0 < g) × (g ≤ guests)
guest_range g e = let a = and_true (ltb 0 g) (leb g guests) e in (ltb-true 0 g a.0, leb-true g guests a.1)

pub guest_low : (g : ℕ) → is_guest g ≡ true → (0 < g) × (g < GUEST_ROWS)
guest_low g e = let a = guest_range g e in let a1 = a.1 in (a.0, omega arith)

-- A frame's cell for a guest.
pub per_guest_same : (part : ℕ → ℕ) (F : ℕ → ℕ → ℕ) (g f v : ℕ) → is_guest g ≡ true →
    per_guest part (upd2 F (CELLS + g) f v) ≡ upd2 (per_guest part F) f g (part v)
unfolding per_guest
per_guest_same part F g f v hg = fun_ext (λ a. fun_ext (λ h. go a h (eq? a f) (eq? h g)))
  where
    go : (a h : ℕ) → (a ≡ f) ⊎ (a ≡ f → ⊥) → (h ≡ g) ⊎ (h ≡ g → ⊥) →
        per_guest part (upd2 F (CELLS + g) f v) a h ≡ upd2 (per_guest part F) f g (part v) a h
    go a h (inl p) (inl q) = rw (upd2_at (per_guest part F) f g (part v) a h p q, q, hg, upd2_at F (CELLS + g) f v (CELLS + g) a refl p)
    go a h (inr p) q = rw (
      upd2_other (per_guest part F) f g (part v) a h (λ x y. p x),
      upd2_other F (CELLS + g) f v (CELLS + h) a (λ x y. p y),
    )
    go a h (inl p) (inr q) = rw (
      upd2_other (per_guest part F) f g (part v) a h (λ x y. q y),
      upd2_other F (CELLS + g) f v (CELLS + h) a (λ (x : CELLS + h ≡ CELLS + g) y. q (omega arith)),
    )

-- a column of a frame's row that is no guest's
abbrev pub BesideCells : ℕ → Type 0
BesideCells j = (j ≤ RANGE) ⊎ (FRAME_AT ≤ j)

-- a store in one
pub per_guest_other : (part : ℕ → ℕ) (F : ℕ → ℕ → ℕ) (j f v : ℕ) → BesideCells j → per_guest part (upd2 F j f v) ≡ per_guest part F
unfolding per_guest
per_guest_other part F j f v far = fun_ext (λ a. fun_ext (λ h. go a h far (is_guest h) refl))
  where
    go : (a h : ℕ) → BesideCells j → (t : Bool) → is_guest h ≡ t →
        cond (is_guest h) (part (upd2 F j f v (CELLS + h) a)) 0 ≡ cond (is_guest h) (part (F (CELLS + h) a)) 0
    go a h d false q = rw q
    go a h (inl d) true q = let l = guest_low h q in rw (upd2_other F j f v (CELLS + h) a (λ (x : CELLS + h ≡ j) y. omega arith))
    go a h (inr d) true q = let l = guest_low h q in rw (upd2_other F j f v (CELLS + h) a (λ (x : CELLS + h ≡ j) y. omega arith))

-- the guests' cells are as they were
pub record Aside (F F' : ℕ → ℕ → ℕ) : Type 0 where
  pub cells : (part : ℕ → ℕ) → per_guest part F' ≡ per_guest part F

pub aside_none : {F : ℕ → ℕ → ℕ} → Aside F F
aside_none = record { cells = λ part. refl }

pub aside : {F F' : ℕ → ℕ → ℕ} → Aside F F' → (j f v : ℕ) → BesideCells j → Aside F (upd2 F' j f v)
aside {F} {F'} h j f v far = record { cells = λ part. per_guest_other part F' j f v far ∙ h.cells part }

-- a cell that is stored as it was
pub upd_self : {A : Type 0} (f : ℕ → A) (k : ℕ) → upd f k (f k) ≡ f
upd_self f k = fun_ext (λ x. elim (eq? x k) [ inl e ↦ upd_at f k (f k) x e ∙ ap f (sym e) | inr e ↦ upd_other f k (f k) x e ])

pub upd2_self : (f : ℕ → ℕ → ℕ) (k j v : ℕ) → v ≡ f k j → upd2 f k j v ≡ f
unfolding upd2
upd2_self f k j v e = rw (e, upd_self (f k) j) (upd_self f k)

-- the four columns that say what a frame is
pub kind_keep : (F F' G : ℕ → ℕ → ℕ) → F' KIND ≡ F KIND → F' GUEST ≡ F GUEST → F' HEIGHT ≡ F HEIGHT → F' RANGE ≡ F RANGE →
    kind_in F' G ≡ kind_in F G
unfolding kind_in
kind_keep F F' G a b c d = fun_ext (λ f. rw (a, b, c, d))

-- the two numbers of the cell
module _ (F : ℕ → ℕ → ℕ) (f g : ℕ) (hg : is_guest g ≡ true) where
  pub share_is : F (CELLS + g) f / SHARE_UNIT ≡ per_guest share_part F f g
  unfolding per_guest share_part
  share_is = rw hg refl

  pub count_is : F (CELLS + g) f % SHARE_UNIT ≡ per_guest count_part F f g
  unfolding per_guest count_part
  count_is = rw hg refl

module _ (F G w : ℕ → ℕ → ℕ) (f g : ℕ) (hg : is_guest g ≡ true) where
  off : (j : ℕ) → j ≤ RANGE → j ≡ CELLS + g → ⊥
  off j l e = let a = guest_low g hg in omega arith

  same_kinds : (v : ℕ) → kind_in (upd2 F (CELLS + g) f v) G ≡ kind_in F G
  same_kinds v =
      kind_keep F (upd2 F (CELLS + g) f v) G
      (column_other F (CELLS + g) f v KIND (off KIND (omega arith)))
      (column_other F (CELLS + g) f v GUEST (off GUEST (omega arith)))
      (column_other F (CELLS + g) f v HEIGHT (off HEIGHT (omega arith)))
      (column_other F (CELLS + g) f v RANGE (off RANGE (omega arith)))

  pub state_cell : (how c v : ℕ) → c < SHARE_UNIT → v ≡ how * SHARE_UNIT + c →
      state_in (upd2 F (CELLS + g) f v) G w ≡ with_cell f g how c (state_in F G w)
  unfolding state_in with_cell remade
  state_cell how c v l e = λ i. record {
    size = size_in G;
    first = first_in G;
    kind = same_kinds v i;
    shared = (per_guest_same share_part F g f v hg ∙ ap (upd2 (per_guest share_part F) f g) share) i;
    count = (per_guest_same count_part F g f v hg ∙ ap (upd2 (per_guest count_part F) f g) count) i;
    exists = exists_in G;
    root = root_in G;
    dirty = dirty_in G;
    word = w;
  }
    where
      share : share_part v ≡ how
      share = unfold share_part in omega arith

      count : count_part v ≡ c
      count = unfold count_part in omega arith

-- one of its two numbers is stored as it was
module _ (f g : ℕ) (s : State) where
  pub share_alone : (how : ℕ) → with_cell f g how (s.count f g) s ≡ with_share f g how s
  unfolding with_cell with_share
  share_alone how = ap (λ (C : ℕ → ℕ → ℕ). remade s s.kind (upd2 s.shared f g how) C s.exists s.root s.dirty s.word)
      (upd2_self s.count f g (s.count f g) refl)

  pub count_alone : (c : ℕ) → with_cell f g (s.shared f g) c s ≡ with_count f g c s
  unfolding with_cell with_count
  count_alone c = ap (λ (S : ℕ → ℕ → ℕ). remade s s.kind S (upd2 s.count f g c) s.exists s.root s.dirty s.word)
      (upd2_self s.shared f g (s.shared f g) refl)

-- What a frame is: its four cells, whatever is stored elsewhere beside the guests'.
module _ (F F' G w : ℕ → ℕ → ℕ) (f k g h p : ℕ) (hf : f < size_in G) (e0 : F' KIND ≡ upd (F KIND) f k) (e1 : F' GUEST ≡ upd (F GUEST) f g)
    (e2 : F' HEIGHT ≡ upd (F HEIGHT) f h) (e3 : F' RANGE ≡ upd (F RANGE) f p) where
  kind_changed : kind_in F' G ≡ upd (kind_in F G) f (kind_at k g h p)
  unfolding kind_in
  kind_changed = fun_ext (λ x. rw (e0, e1, e2, e3) (go x (eq? x f)))
    where
      go : (x : ℕ) → (x ≡ f) ⊎ (x ≡ f → ⊥) → cond (ltb x (size_in G))
          (kind_at (upd (F KIND) f k x) (upd (F GUEST) f g x) (upd (F HEIGHT) f h x) (upd (F RANGE) f p x)) monitor ≡ upd (kind_in F G) f
          (kind_at k g h p) x
      go x (inl e) = rw (
        upd_at (kind_in F G) f (kind_at k g h p) x e,
        upd_at (F KIND) f k x e,
        upd_at (F GUEST) f g x e,
        upd_at (F HEIGHT) f h x e,
        upd_at (F RANGE) f p x e,
        e,
        lt-ltb f (size_in G) hf,
      )
      go x (inr e) = rw (
        upd_other (kind_in F G) f (kind_at k g h p) x e,
        upd_other (F KIND) f k x e,
        upd_other (F GUEST) f g x e,
        upd_other (F HEIGHT) f h x e,
        upd_other (F RANGE) f p x e,
      )

  pub state_kind : Aside F F' → state_in F' G w ≡ with_kind f (kind_at k g h p) (state_in F G w)
  unfolding state_in with_kind remade
  state_kind same = λ i. record {
    size = size_in G;
    first = first_in G;
    kind = kind_changed i;
    shared = same.cells share_part i;
    count = same.cells count_part i;
    exists = exists_in G;
    root = root_in G;
    dirty = dirty_in G;
    word = w;
  }

-- Nobody shares: a frame's cells for the guests below g, one after the other; 0 is no guest, and its cell is none.
unfoldable pub unshared_below : (g f : ℕ) → State → State
unshared_below zero f s = s
unshared_below (suc h) f s = with_share f h NOTHING (unshared_below h f s)

module _ (f : ℕ) (s : State) where
  unshared_here : (h g : ℕ) → g < h → (unshared_below h f s).shared f g ≡ 0
  unfolding unshared_below with_share remade
  unshared_here zero g a = absurd (omega arith)
  unshared_here (suc h) g a = elim (eq? g h) [
    | inl e ↦ upd2_at (unshared_below h f s).shared f h 0 f g refl e
    | inr e ↦ upd2_other (unshared_below h f s).shared f h 0 f g (λ _ x. e x) ∙ unshared_here h g (omega arith)
  ]

  unshared_there : (h x g : ℕ) → ((x ≡ f → ⊥) ⊎ (h ≤ g)) → (unshared_below h f s).shared x g ≡ s.shared x g
  unfolding unshared_below with_share remade
  unshared_there zero x g a = refl
  unshared_there (suc h) x g (inl a) = upd2_other (unshared_below h f s).shared f h 0 x g (λ e _. a e) ∙ unshared_there h x g (inl a)
  unshared_there (suc h) x g (inr a) = upd2_other (unshared_below h f s).shared f h 0 x g (λ _ (e : g ≡ h). omega arith)
      ∙ unshared_there h x g (inr (omega arith))

pub unshared_size : (h f : ℕ) (s : State) → (unshared_below h f s).size ≡ s.size
unfolding unshared_below with_share remade
unshared_size zero f s = refl
unshared_size (suc h) f s = unshared_size h f s

module _ (F G w : ℕ → ℕ → ℕ) (f : ℕ) where
  with_shared : (ℕ → ℕ → ℕ) → State
  with_shared S = let s = state_in F G w in remade s s.kind S s.count s.exists s.root s.dirty s.word

  pub guest_0_unshared : unshared_below 1 f (state_in F G w) ≡ state_in F G w
  unfolding with_shared unshared_below with_share remade state_in per_guest
  guest_0_unshared = ap with_shared (upd2_self (per_guest share_part F) f 0 0 refl)

  pub nobody_shares : unshared_below (guests + 1) f (state_in F G w) ≡ with_no_shares f (state_in F G w)
  unfolding with_shared unshared_below with_share with_no_shares remade state_in
  nobody_shares = ap with_shared gone
    where
      zero_at : (g : ℕ) → (unshared_below (guests + 1) f (state_in F G w)).shared f g ≡ zeros g
      zero_at g = elim (lt? guests g) [
        | inr l ↦ unfold zeros in unshared_here f (state_in F G w) (guests + 1) g (omega arith)
        | inl l ↦ unshared_there f (state_in F G w) (guests + 1) f g (inr (omega arith)) ∙ none g l
      ]
        where
          none : (g : ℕ) → guests < g → (state_in F G w).shared f g ≡ zeros g
          none g l = unfold state_in per_guest zeros in rw (lt-ltb 0 g (omega arith), lt-leb g guests l)

      at : (x g : ℕ) → (unshared_below (guests + 1) f (state_in F G w)).shared x g ≡ upd (state_in F G w).shared f zeros x g
      at x g = elim (eq? x f) [
        | inr e ↦ unshared_there f (state_in F G w) (guests + 1) x g (inl e)
            ∙ ap (λ (z : ℕ → ℕ). z g) (sym (upd_other (state_in F G w).shared f zeros x e))
        | inl e ↦ ap (λ (y : ℕ). (unshared_below (guests + 1) f (state_in F G w)).shared y g) e ∙ zero_at g
            ∙ ap (λ (z : ℕ → ℕ). z g) (sym (upd_at (state_in F G w).shared f zeros x e))
      ]

      gone : (unshared_below (guests + 1) f (state_in F G w)).shared ≡ upd (state_in F G w).shared f zeros
      gone = fun_ext (λ x. fun_ext (λ g. at x g))

-- What all guests have: of those below g none yet, one more, all.
module _ (part : ℕ → ℕ) (F : ℕ → ℕ → ℕ) (f : ℕ) where
  pub none_yet : 0 ≡ sum 1 (per_guest part F f)
  unfolding sum per_guest
  none_yet = refl

  pub all_told : (g : ℕ) → g ≡ guests + 1 → sum g (per_guest part F f) ≡ total (per_guest part F f)
  unfolding sum total per_guest
  all_told g e = rw e refl

pub one_more : (g : ℕ) (c : ℕ → ℕ) → sum (g + 1) c ≡ sum g c + c g
unfolding sum
one_more g c = rw (add-one g) refl
