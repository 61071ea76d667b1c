-- map makes the tables that are missing: what holds after that, and what is as before.
use mathlib.Core.Path.{◌≡◌, refl, sym, ap, ◌∙◌}
use mathlib.Core.Bool.{true, false}
use mathlib.Core.Logic.{◌⊎◌, inl, inr}
use mathlib.Core.Option.{Option, none, some}
use Prim.Native.Nat.{ℕ, zero, suc, ◌+◌, ◌*◌, ◌≤◌, ◌<◌, ◌/◌, ◌%◌}
use native.Mathlib.Omega.{arith}
use native.Mathlib.Nat.{div-add-mod'}
use lib.Dec.{eqb}
use Rattle.model.proofs.Laws.Base.{eq?}
use Rattle.model.proofs.Laws.Base.{upd_same, upd_other}
use Rattle.model.specs.State.{State, KindOfFrame, free, table, free_frames}
use Rattle.model.specs.Entry.{Entry, empty, to_table, to_page, other, entry}
use Rattle.model.proofs.Laws.Entry.{entry_empty}
use Rattle.model.specs.Translate.{upper, index, entry_at, into, descend, missing_from, Page, page_in, page_at}
use Rattle.model.specs.Changes.{Choice, with_table, grow}
use Rattle.model.specs.Cache.{Caches}
use Rattle.model.specs.State.{kind_number, FREE, TABLE}
use Rattle.model.proofs.Invariant.Kinds.{clash}
use Rattle.model.specs.Invariant.{May, Core, Kept}
use Rattle.model.proofs.Invariant.Way.{step_kind}
use Rattle.model.proofs.Invariant.NewTable.{linked_here, linked_new, linked_old, linked_keep, linked_may, linked_core, linked_kept}
use Rattle.model.proofs.Invariant.Choice.{first_free, fewer, rest_chosen}

-- what page v comes to from table t of height h
abbrev pub comes_to : State → (h t v : ℕ) → Option Page
comes_to s h t v = page_at s v (descend s h t v)

-- a table of zeros leads nowhere
zero_table : (s : State) (t : ℕ) → ((j : ℕ) → s.word t j ≡ 0) → (h v : ℕ) → comes_to s h t v ≡ none
unfolding descend
zero_table s t z zero v = rw (z (v % 512), entry_empty s.first)
zero_table s t z (suc h) v = rw (z (index (suc h) v), entry_empty s.first)

pub zero_missing : (s : State) (t : ℕ) → ((j : ℕ) → s.word t j ≡ 0) → (h v : ℕ) → missing_from s h t v ≡ h
unfolding missing_from
zero_missing s t z zero v = refl
zero_missing s t z (suc h) v = rw (z (index (suc h) v), entry_empty s.first)

-- the table that is missing below t, of height h + 1, on the way to v, is linked in; and what is known where that is done
abbrev pub linked : (h : ℕ) → State → (g t v : ℕ) → (ℕ → ℕ) → State
linked h s g t v pick = with_table s t (index (suc h) v) (pick 0) g h (upper (suc h) v)

pub record Links (h : ℕ) (s : State) (g t v : ℕ) (pick : ℕ → ℕ) : Type 0 where
  pub core : Core s
  pub chosen : Choice s pick
  pub enough : suc h ≤ free_frames s
  pub above : s.kind t ≡ table g (suc h) (upper (suc (suc h)) v)
  pub was : entry_at s t (index (suc h) v) ≡ empty
  pub range : upper (suc (suc h)) v * 512 + index (suc h) v ≡ upper (suc h) v
  pub spare : s.kind (pick 0) ≡ free
  pub all_missing : missing_from (linked h s g t v pick) h (pick 0) v ≡ h

-- Induction over the tables that map finds and makes: the last, one that is there, one that is made.
module _ {ℓ} (P : (h : ℕ) (s : State) (g t v : ℕ) (pick : ℕ → ℕ) → Type ℓ)
    (last : (s : State) → Core s → (g t v : ℕ) (pick : ℕ → ℕ) → s.kind t ≡ table g 0 (v / 512) → P 0 s g t v pick)
    (there : (h : ℕ) (s : State) → Core s → (g t v : ℕ) (pick : ℕ → ℕ) → s.kind t ≡ table g (suc h) (upper (suc (suc h)) v) → (t' : ℕ) →
    entry_at s t (index (suc h) v) ≡ to_table t' → P h s g t' v pick → P (suc h) s g t v pick)
    (made : (h : ℕ) (s : State) (g t v : ℕ) (pick : ℕ → ℕ) → Links h s g t v pick →
    P h (linked h s g t v pick) g (pick 0) v (λ j. pick (suc j)) → P (suc h) s g t v pick) where
  pub grow_by : (h : ℕ) (s : State) → Core s → (g t v : ℕ) (pick : ℕ → ℕ) → Choice s pick → missing_from s h t v ≤ free_frames s →
      s.kind t ≡ table g h (upper (suc h) v) → P h s g t v pick
  unfolding upper
  grow_by zero s c g t v pick ch m a = last s c g t v pick a
  grow_by (suc h) s c g t v pick ch m a = at (grow_by h) (entry_at s t i) refl (unfold missing_from in m)
    where
      IH : Type ℓ
      IH = (s : State) → Core s → (g t v : ℕ) (pick : ℕ → ℕ) → Choice s pick → missing_from s h t v ≤ free_frames s →
          s.kind t ≡ table g h (upper (suc h) v) → P h s g t v pick

      i : ℕ
      i = index (suc h) v

      new : IH → entry_at s t i ≡ empty → suc h ≤ free_frames s → P (suc h) s g t v pick
      new ih w l =
          let some : 0 < free_frames s = omega arith in
          let f = first_free s c pick ch some in
          let z = div-add-mod' (upper (suc h) v) 512 in
          let c' = linked_core s c t i (pick 0) g h (upper (suc (suc h)) v) (upper (suc h) v) a (omega arith) w z f in
          let n = zero_missing (linked h s g t v pick) (pick 0)
          (linked_new s c t i (pick 0) g h (upper (suc (suc h)) v) (upper (suc h) v) a (omega arith) w z f (pick 0) refl) h v in
          let less = fewer s c pick ch some t i g h (upper (suc h) v) in
          made h s g t v pick (record { core = c; chosen = ch; enough = l; above = a; was = w; range = z; spare = f; all_missing = n })
          (ih (linked h s g t v pick) c' g (pick 0) v (λ j. pick (suc j)) (rest_chosen s c pick ch some t i g h (upper (suc h) v))
          (rw n (omega arith)) (unfold with_table in upd_same s.kind (pick 0) (table g h (upper (suc h) v))))

      at : IH → (e : Entry) → entry_at s t i ≡ e → into e (suc h) (λ t'. missing_from s h t' v) ≤ free_frames s → P (suc h) s g t v pick
      at ih empty e m = new ih e m
      at ih (to_table t') e m = there h s c g t v pick a t' e (ih s c g t' v pick ch m (step_kind s c g h t v t' a e))
      at ih (to_page f r) e m = absurd (rw e at (c.tables t g (suc h) (upper (suc (suc h)) v) a i (omega arith)))
      at ih (other x) e m = absurd (rw e at (c.tables t g (suc h) (upper (suc (suc h)) v) a i (omega arith)))

-- from s to s': tables on the way to v, below t of height h, are made
pub record Grew (k : Caches) (s : State) (h g t v : ℕ) (s' : State) (u : ℕ) : Type 0 where
  pub core : Core s'
  pub kept : Kept s' k
  pub last : s'.kind u ≡ table g 0 (v / 512)
  pub may : (g' f r : ℕ) → May s g' f r → May s' g' f r
  pub root : s'.root ≡ s.root
  pub exists : s'.exists ≡ s.exists
  pub first : s'.first ≡ s.first
  pub size : s'.size ≡ s.size
  pub shared : s'.shared ≡ s.shared
  pub count : s'.count ≡ s.count
  pub dirty : s'.dirty ≡ s.dirty
  -- only free frames become something, and only they and tables change
  pub kinds : (f : ℕ) (x : KindOfFrame) → s.kind f ≡ x → eqb FREE (kind_number x) ≡ false → s'.kind f ≡ x
  pub from : (f : ℕ) (x : KindOfFrame) → s'.kind f ≡ x → (s.kind f ≡ x) ⊎ ((s.kind f ≡ free) × (eqb TABLE (kind_number x) ≡ true))
  pub words : (f : ℕ) (x : KindOfFrame) → s.kind f ≡ x → eqb FREE (kind_number x) ≡ false → eqb TABLE (kind_number x) ≡ false → (i : ℕ) →
      s'.word f i ≡ s.word f i
  pub above : (x g' n p j : ℕ) → h < n → s.kind x ≡ table g' n p → s'.word x j ≡ s.word x j
  -- the way to v ends at u, and everything comes to what it came to
  pub way : descend s' h t v ≡ some u
  pub moves : (g' n x v' : ℕ) → s.kind x ≡ table g' n (upper (suc n) v') → comes_to s' n x v' ≡ comes_to s n x v'

-- one new table: everything comes to what it came to
module _ (s : State) (c : Core s) (t i t' g h p q : ℕ) (ht : s.kind t ≡ table g (suc h) p) (hi : i < 512) (was : entry_at s t i ≡ empty)
    (hq : p * 512 + i ≡ q) (hf : s.kind t' ≡ free) where
  abbrev s1 : State
  s1 = with_table s t i t' g h q

  first1 : s1.first ≡ s.first
  first1 = unfold with_table in refl

  old : (u g' n p' : ℕ) → s.kind u ≡ table g' n p' → (j : ℕ) → (u ≡ t → j ≡ i → ⊥) → entry_at s1 u j ≡ entry_at s u j
  old u g' n p' a j d = rw (
    first1,
    linked_old s c t i t' g h p q ht hi was hq hf u
        (λ (e : u ≡ t'). clash {x = free} {y = table g' n p'} (sym hf ∙ ap s.kind (sym e) ∙ a) refl) j d,
  )

  pub linked_moves : (g' n u v : ℕ) → s.kind u ≡ table g' n (upper (suc n) v) → comes_to s1 n u v ≡ comes_to s n u v
  unfolding descend
  linked_moves g' zero u v a = ap page_in (old u g' 0 (upper 1 v) a (v % 512) (λ (e : u ≡ t) z. let o : 0 ≡ suc h = cc in omega arith))
  linked_moves g' (suc n) u v a = elim (eq? u t) [
    | inr e ↦ same (linked_moves g' n) (old u g' (suc n) (upper (suc (suc n)) v) a j (λ x y. e x))
    | inl e ↦ elim (eq? j i) [
      | inr d ↦ same (linked_moves g' n) (old u g' (suc n) (upper (suc (suc n)) v) a j (λ x y. d y))
      | inl d ↦ rw (e, d, linked_here s c t i t' g h p q ht hi was hq hf, was)
          (zero_table s1 t' (linked_new s c t i t' g h p q ht hi was hq hf t' refl) n v)
    ]
  ]
    where
      j : ℕ
      j = index (suc n) v

      go : ((u v : ℕ) → s.kind u ≡ table g' n (upper (suc n) v) → comes_to s1 n u v ≡ comes_to s n u v) → (x : Entry) →
          entry_at s u j ≡ x →
          page_at s1 v (into x none (λ x. descend s1 n x v)) ≡ page_at s v (into x none (λ x. descend s n x v))
      go ih empty e = refl
      go ih (to_table x) e = ih x v (step_kind s c g' n u v x a e)
      go ih (to_page f r) e = refl
      go ih (other x) e = refl

      same : ((u v : ℕ) → s.kind u ≡ table g' n (upper (suc n) v) → comes_to s1 n u v ≡ comes_to s n u v) →
          entry_at s1 u j ≡ entry_at s u j →
          page_at s1 v (into (entry_at s1 u j) none (λ x. descend s1 n x v)) ≡
          page_at s v (into (entry_at s u j) none (λ x. descend s n x v))
      same ih e = rw e (go ih (entry_at s u j) refl)

  kind_new : s1.kind t' ≡ table g h q
  kind_new = unfold with_table in upd_same s.kind t' (table g h q)

  kind_old : (f : ℕ) → (f ≡ t' → ⊥) → s1.kind f ≡ s.kind f
  kind_old f e = unfold with_table in upd_other s.kind t' (table g h q) f e

  -- and what is made below it
  pub grew_below : (k : Caches) (v : ℕ) → index (suc h) v ≡ i → (s' : State) (u : ℕ) → Grew k s1 h g t' v s' u →
      Grew k s (suc h) g t v s' u
  unfolding descend
  grew_below k v hv s' u e = record {
    core = e.core;
    kept = e.kept;
    last = e.last;
    may = λ g' f r m. e.may g' f r (linked_may s c t i t' g h p q ht hi was hq hf g' f r m);
    root = e.root ∙ (unfold with_table in refl);
    exists = e.exists ∙ (unfold with_table in refl);
    first = e.first ∙ (unfold with_table in refl);
    size = e.size ∙ (unfold with_table in refl);
    shared = e.shared ∙ (unfold with_table in refl);
    count = e.count ∙ (unfold with_table in refl);
    dirty = e.dirty ∙ (unfold with_table in refl);
    kinds = λ f x a z. e.kinds f x (kept1 f x a z) z;
    from = λ f x a. elim (e.from f x a) [
      | inl b ↦ was_before f x b
      | inr b ↦ elim (was_before f free b.0)
          [ inl d ↦ inr (d, b.1) | inr d ↦ inr (d.0, b.1) ]
    ];
    words = λ f x a z y j. e.words f x (kept1 f x a z) z y j ∙ linked_old s c t i t' g h p q ht hi was hq hf f (notnew f x a z) j
        (λ (w : f ≡ t) o. clash {x = table g (suc h) p} {y = x} (sym ht ∙ ap s.kind (sym w) ∙ a) y);
    above = λ x g' n p' j l a. e.above x g' n p' j (omega arith) (kept1 x (table g' n p') a refl)
        ∙ linked_old s c t i t' g h p q ht hi was hq hf x (notnew x (table g' n p') a refl) j
        (λ (w : x ≡ t) o. let z : n ≡ suc h = cc in omega arith);
    way =
        let x : entry_at s' t i ≡ to_table t' = ap (λ (z : ℕ). entry z (s'.word t i)) e.first
        ∙ ap (entry s1.first) (e.above t g (suc h) p i (omega arith) (kept1 t (table g (suc h) p) ht refl))
        ∙ linked_here s c t i t' g h p q ht hi was hq hf in
        rw (hv, x) e.way;
    moves = λ g' n x v' a. e.moves g' n x v' (kept1 x (table g' n (upper (suc n) v')) a refl) ∙ linked_moves g' n x v' a;
  }
    where
      kept1 : (f : ℕ) (x : KindOfFrame) → s.kind f ≡ x → eqb FREE (kind_number x) ≡ false → s1.kind f ≡ x
      kept1 f x a z = linked_keep s c t i t' g h p q ht hi was hq hf f x a z

      was_before : (f : ℕ) (x : KindOfFrame) → s1.kind f ≡ x → (s.kind f ≡ x) ⊎ ((s.kind f ≡ free) × (eqb TABLE (kind_number x) ≡ true))
      was_before f x a = elim (eq? f t') [
        | inl e ↦ inr (
          ap s.kind e ∙ hf,
          let b : table g h q ≡ x = sym kind_new ∙ ap s1.kind (sym e)
              ∙ a in ap (λ (y : KindOfFrame). eqb TABLE (kind_number y)) (sym b),
        )
        | inr e ↦ inl (sym (kind_old f e) ∙ a)
      ]

      notnew : (f : ℕ) (x : KindOfFrame) → s.kind f ≡ x → eqb FREE (kind_number x) ≡ false → f ≡ t' → ⊥
      notnew f x a z e = clash {x = free} {y = x} (sym hf ∙ ap s.kind (sym e) ∙ a) z

module _ (k : Caches) where
  abbrev Grows : (h : ℕ) (s : State) (g t v : ℕ) (pick : ℕ → ℕ) → Type 0
  Grows h s g t v pick = Kept s k → Grew k s h g t v (grow h s g t v pick).state (grow h s g t v pick).last

  grew_last : (s : State) → Core s → (g t v : ℕ) (pick : ℕ → ℕ) → s.kind t ≡ table g 0 (v / 512) → Grows 0 s g t v pick
  unfolding grow descend
  grew_last s c g t v pick a q = record {
    core = c;
    kept = q;
    last = a;
    may = λ g' f r m. m;
    root = refl;
    exists = refl;
    first = refl;
    size = refl;
    shared = refl;
    count = refl;
    dirty = refl;
    kinds = λ f x a z. a;
    from = λ f x a. inl a;
    words = λ f x a z y i. refl;
    above = λ x g' n p j l a. refl;
    way = refl;
    moves = λ g' n x v' a. refl;
  }

  -- a table that is there changes nothing
  lifted : (h : ℕ) (s : State) (g t v : ℕ) → s.kind t ≡ table g (suc h) (upper (suc (suc h)) v) → (t' : ℕ) →
      entry_at s t (index (suc h) v) ≡ to_table t' → (s' : State) (u : ℕ) → Grew k s h g t' v s' u → Grew k s (suc h) g t v s' u
  unfolding descend
  lifted h s g t v a t' w s' u e = record {
    core = e.core;
    kept = e.kept;
    last = e.last;
    may = e.may;
    root = e.root;
    exists = e.exists;
    first = e.first;
    size = e.size;
    shared = e.shared;
    count = e.count;
    dirty = e.dirty;
    kinds = e.kinds;
    from = e.from;
    words = e.words;
    above = λ x g' n p j l a. e.above x g' n p j (omega arith) a;
    way =
        let x : entry_at s' t (index (suc h) v) ≡ to_table t' =
        ap (λ (z : ℕ). entry z (s'.word t (index (suc h) v))) e.first
        ∙ ap (entry s.first) (e.above t g (suc h) (upper (suc (suc h)) v) (index (suc h) v) (omega arith) a) ∙ w in
        rw x e.way;
    moves = e.moves;
  }

  grew_there : (h : ℕ) (s : State) → Core s → (g t v : ℕ) (pick : ℕ → ℕ) → s.kind t ≡ table g (suc h) (upper (suc (suc h)) v) →
      (t' : ℕ) → entry_at s t (index (suc h) v) ≡ to_table t' → Grows h s g t' v pick → Grows (suc h) s g t v pick
  unfolding grow
  grew_there h s c g t v pick a t' w e q = rw w (lifted h s g t v a t' w (grow h s g t' v pick).state (grow h s g t' v pick).last (e q))

  grew_made : (h : ℕ) (s : State) (g t v : ℕ) (pick : ℕ → ℕ) → Links h s g t v pick →
      Grows h (linked h s g t v pick) g (pick 0) v (λ j. pick (suc j)) → Grows (suc h) s g t v pick
  unfolding grow
  grew_made h s g t v pick x e q = let i = index (suc h) v in let new = grow h (linked h s g t v pick) g (pick 0) v (λ j. pick (suc j)) in
      rw x.was (grew_below s x.core t i (pick 0) g h (upper (suc (suc h)) v) (upper (suc h) v) x.above (omega arith) x.was
      x.range x.spare k v refl new.state new.last
      (e (linked_kept s x.core t i (pick 0) g h (upper (suc (suc h)) v) (upper (suc h) v) x.above (omega arith) x.was x.range
      x.spare k q)))

  pub grow_grew : (h : ℕ) (s : State) → Core s → (g t v : ℕ) (pick : ℕ → ℕ) → Choice s pick → missing_from s h t v ≤ free_frames s →
      s.kind t ≡ table g h (upper (suc h) v) → Grows h s g t v pick
  grow_grew = grow_by Grows grew_last grew_there grew_made
