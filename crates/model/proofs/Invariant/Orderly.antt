-- What an operation does to frames and their words: only free frames and tables change, and what becomes a page was free and is all zero.
use mathlib.Core.Path.{◌≡◌, refl, sym, ap, ◌∙◌}
use mathlib.Core.Bool.{Bool, true, false, cond}
use mathlib.Core.Logic.{◌⊎◌, inl, inr}
use Prim.Native.Nat.{ℕ, ◌<◌, ◌/◌, ◌%◌}
use native.Mathlib.Omega.{arith}
use lib.Dec.{eqb, ltb}
use borrow.Author.Tests.{leb-true}
use Rattle.model.proofs.Laws.Base.{eq?, and_true}
use Rattle.model.specs.Base.{upd, upd2}
use Rattle.model.proofs.Laws.Base.{upd_at, upd_other, upd2_other}
use Rattle.model.specs.State.{State, KindOfFrame, free, table, draining_table, page, draining_page, is_page_of, free_frames}
use Rattle.model.specs.Entry.{to_page, entry, page_entry}
use Rattle.model.specs.Translate.{entry_at, translate, missing}
use Rattle.model.specs.Changes.{Choice, zeros, becomes, with_root, Grown, grow, with_page, with_mapping, without_page, drained, without_guest, clean}
use Rattle.model.specs.Operations.{done, create, give, map, unmap, share, unshare, take, destroy, invalidated}
use Rattle.model.specs.Cache.{Caches, nothing_kept}
use Rattle.model.specs.Machine.{Operation, Create, Give, Take, Map, Unmap, Share, Unshare, Destroy, Invalidated, answer, Chooses}
use Rattle.model.specs.State.{kind_number, DRAINING_PAGE, DRAINING_TABLE, FREE, TABLE}
use Rattle.model.proofs.Invariant.Kinds.{clash, kind_from, free_is, page_of_is}
use Rattle.model.specs.Invariant.{May, Core}
use Rattle.model.proofs.Invariant.Way.{leaf_kind, translate_from}
use Rattle.model.proofs.Invariant.Choice.{first_free}
use Rattle.model.proofs.Invariant.Grow.{Grew}
use Rattle.model.proofs.Invariant.MapUnmap.{address_low, some_is, grown_for, without_is}
use Rattle.model.proofs.Invariant.Destroy.{Was, stays, was_table, was_page, was}
use Rattle.model.proofs.Invariant.Invalidated.{released_from}
use Rattle.model.proofs.Invariant.Answer.{Then, then_done, checked}
use Rattle.model.proofs.Invariant.Holds.{nothing_ok}

-- what becomes a page: it was free, is all zero, and no entry leads to it
pub record Fresh (s s' : State) (f : ℕ) : Type 0 where
  pub was_free : s.kind f ≡ free
  pub zero : (i : ℕ) → s'.word f i ≡ 0
  pub unled : (t g p i r : ℕ) → s'.kind t ≡ table g 0 p → i < 512 → entry_at s' t i ≡ to_page f r → ⊥

pub record Orderly (s s' : State) : Type 0 where
  pub first : s'.first ≡ s.first
  pub size : s'.size ≡ s.size
  pub words : (f : ℕ) (x : KindOfFrame) → s.kind f ≡ x → eqb FREE (kind_number x) ≡ false → eqb TABLE (kind_number x) ≡ false → (i : ℕ) →
      s'.word f i ≡ s.word f i
  pub pages_from : (f g : ℕ) → s'.kind f ≡ page g → (s.kind f ≡ page g) ⊎ Fresh s s' f
  pub tables_from : (f g h p : ℕ) → s'.kind f ≡ table g h p → (s.kind f ≡ table g h p) ⊎ (s.kind f ≡ free)

free_unled : (s : State) (f f' : ℕ) → s.kind f ≡ free → f' ≡ f → (g r : ℕ) → May s g f' r → ⊥
free_unled s f f' hf e g r (inl a) = clash {x = free} {y = page g} (sym hf ∙ ap s.kind (sym e) ∙ a) refl
free_unled s f f' hf e g r (inr a) = clash {x = free} {y = page a.0} (sym hf ∙ ap s.kind (sym e) ∙ a.1) refl

module _ (s : State) where
  -- take, share, unshare
  becomes_orderly : (f : ℕ) (y : KindOfFrame) (sh : ℕ → ℕ → ℕ) → ((g : ℕ) → y ≡ page g → s.kind f ≡ page g) →
      eqb (kind_number y) TABLE ≡ false → Orderly s (becomes s f y s.word sh)
  unfolding becomes
  becomes_orderly f y sh own y2 = record {
    first = refl;
    size = refl;
    words = λ f' x a b d i. refl;
    pages_from = λ f' g a. elim (eq? f' f) [
      | inl e ↦ inl (ap s.kind e ∙ own g (sym (upd_at s.kind f y f' e) ∙ a))
      | inr e ↦ inl (sym (upd_other s.kind f y f' e) ∙ a)
    ];
    tables_from = λ f' g h p a. inl (kind_from s.kind f y f' (table g h p) a y2);
  }

  given_orderly : Core s → (f g : ℕ) (sh : ℕ → ℕ → ℕ) → s.kind f ≡ free → Orderly s (becomes s f (page g) (upd s.word f zeros) sh)
  unfolding becomes zeros
  given_orderly c f g sh hf = record {
    first = refl;
    size = refl;
    words = λ f' x a b d i. rw (upd_other s.word f zeros f'
        (λ (e : f' ≡ f). clash {x = free} {y = x} (sym hf ∙ ap s.kind (sym e) ∙ a) b));
    pages_from = λ f' g' a. elim (eq? f' f) [
      | inl e ↦ inr (record {
        was_free = ap s.kind e ∙ hf;
        zero = λ i. rw (upd_at s.word f zeros f' e);
        unled = λ t h p i r k l d.
            let k' = kind_from s.kind f (page g) t (table h 0 p) k refl in
            let same : upd s.word f zeros t i ≡ s.word t i =
            rw (upd_other s.word f zeros t (λ (e : t ≡ f). clash {x = free} {y = table h 0 p} (sym hf ∙ ap s.kind (sym e) ∙ k')
            refl)) in
            free_unled s f f' hf e h r (rw (sym (ap (entry s.first) same) ∙ d) at (c.tables t h 0 p k' i l));
      })
      | inr e ↦ inl (sym (upd_other s.kind f (page g) f' e) ∙ a)
    ];
    tables_from = λ f' g' h p a. inl (kind_from s.kind f (page g) f' (table g' h p) a refl);
  }

  root_orderly : (g t : ℕ) → s.kind t ≡ free → Orderly s (with_root s g t)
  unfolding with_root
  root_orderly g t hf = record {
    first = refl;
    size = refl;
    words = λ f x a b d i. rw (upd_other s.word t zeros f
        (λ (e : f ≡ t). clash {x = free} {y = x} (sym hf ∙ ap s.kind (sym e) ∙ a) b));
    pages_from = λ f g' a. inl (kind_from s.kind t (table g 3 0) f (page g') a refl);
    tables_from = λ f g' h p a. elim (eq? f t) [
      | inl e ↦ inr (ap s.kind e ∙ hf)
      | inr e ↦ inl (sym (upd_other s.kind t (table g 3 0) f e) ∙ a)
    ];
  }

  -- a word of a table is changed
  word_orderly : (t g p i x : ℕ) (s' : State) → s.kind t ≡ table g 0 p → s'.first ≡ s.first → s'.size ≡ s.size → s'.kind ≡ s.kind →
      s'.word ≡ upd2 s.word t i x → Orderly s s'
  word_orderly t g p i x s' ht e1 e2 e3 e4 = record {
    first = e1;
    size = e2;
    words = λ f y a b d j. rw e4 (upd2_other s.word t i x f j
        (λ (e : f ≡ t) z. clash {x = table g 0 p} {y = y} (sym ht ∙ ap s.kind (sym e) ∙ a) d));
    pages_from = λ f g' a. inl (rw e3 at a);
    tables_from = λ f g' h p a. inl (rw e3 at a);
  }

  -- the same after tables were made
  grew_orderly : (k : Caches) (h g t v : ℕ) (s' : State) (u : ℕ) → Grew k s h g t v s' u → (i x : ℕ) (s'' : State) →
      s''.first ≡ s'.first → s''.size ≡ s'.size → s''.kind ≡ s'.kind → s''.word ≡ upd2 s'.word u i x → Orderly s s''
  grew_orderly k h g t v s' u e i x s'' e1 e2 e3 e4 = record {
    first = e1 ∙ e.first;
    size = e2 ∙ e.size;
    words = λ f y a b d j. rw e4 (upd2_other s'.word u i x f j
        (λ (q : f ≡ u) z. clash {x = table g 0 (v / 512)} {y = y} (sym e.last ∙ ap s'.kind (sym q) ∙ e.kinds f y a b) d))
        ∙ e.words f y a b d j;
    pages_from = λ f g' a. elim (e.from f (page g') (rw e3 at a)) [ inl b ↦ inl b | inr b ↦ absurd (no_bool b.1) ];
    tables_from = λ f g' h p a. elim (e.from f (table g' h p) (rw e3 at a)) [ inl b ↦ inl b | inr b ↦ inr b.0 ];
  }
    where
      no_bool : false ≡ true → ⊥
      no_bool e = let z : ◌≡◌ {A = ℕ} 0 1 = cc in omega arith

  destroyed_orderly : (g : ℕ) → Orderly s (without_guest s g)
  unfolding without_guest
  destroyed_orderly g = record {
    first = refl;
    size = refl;
    words = λ f x a b d i. refl;
    pages_from = λ f g' a. inl (before f (page g') a refl refl (was g (s.kind f)));
    tables_from = λ f g' h p a. inl (before f (table g' h p) a refl refl (was g (s.kind f)));
  }
    where
      before : (f : ℕ) (x : KindOfFrame) → drained g (s.kind f) ≡ x → eqb DRAINING_TABLE (kind_number x) ≡ false →
          eqb DRAINING_PAGE (kind_number x) ≡ false → Was g (s.kind f) → s.kind f ≡ x
      before f x a y3 y5 (stays b c d) = sym b ∙ a
      before f x a y3 y5 (was_table n p b d) = absurd (clash {x = draining_table g n p} {y = x} (sym d ∙ a) y3)
      before f x a y3 y5 (was_page b d) = absurd (clash {x = draining_page g} {y = x} (sym d ∙ a) y5)

  clean_orderly : (g : ℕ) → Orderly s (clean s g)
  unfolding clean
  clean_orderly g = record {
    first = refl;
    size = refl;
    words = λ f x a b d i. refl;
    pages_from = λ f g' a. inl (released_from g (s.kind f) (page g') a refl);
    tables_from = λ f g' h p a. inl (released_from g (s.kind f) (table g' h p) a refl);
  }

map_orderly : (s : State) (c : Core s) (f g a r : ℕ) (pick : ℕ → ℕ) → Choice s pick → Then (Orderly s) (map s f g a r pick)
unfolding map with_mapping with_page
map_orderly s c f g a r pick ch =
    checked 5 λ e1. checked 14 λ e2. checked 7 λ e3. checked 8 λ e4. checked 4 λ e5. checked 9 λ e6. checked 10 λ e7. checked 3 λ e8.
    let z = grown_for s c nothing_kept (nothing_ok s) g (a / 4096) pick e1 (address_low a e3) ch
    (leb-true (missing s g (a / 4096)) (free_frames s) e8) in
    then_done (grew_orderly s nothing_kept 3 g (s.root g) (a / 4096) x.state x.last z (a / 4096 % 512)
    (page_entry x.state.first f r) (with_page x.state x.last (a / 4096 % 512) f r g) refl refl refl refl)
  where
    x : Grown
    x = grow 3 s g (s.root g) (a / 4096) pick

unmap_orderly : (s : State) (c : Core s) (g a : ℕ) → Then (Orderly s) (unmap s a g)
unfolding unmap without_page
unmap_orderly s c g a =
    checked 5 λ e1. checked 7 λ e2. checked 11 λ e3.
    let o = some_is (translate s g (a / 4096)) e3 in
    let w = translate_from s g (a / 4096) o.0 o.1 o.2 in
    rw (without_is s c g (a / 4096) w.0 o.0 o.1 w.1 o.2)
    (then_done (word_orderly s w.0 g (a / 4096 / 512) (a / 4096 % 512) 0 (without_page s w.0 (a / 4096 % 512) o.0 g)
    (leaf_kind s c g (a / 4096) w.0 (address_low a e2) w.1) refl refl refl refl))

take_orderly : (s : State) (f g : ℕ) → Then (Orderly s) (take s f g)
unfolding take
take_orderly s f g = checked 5 λ e1. checked 4 λ e2. checked 9 λ e3. checked 13 λ e4. go (s.dirty g)
  where
    go : (b : Bool) → Then (Orderly s) (done (becomes s f (cond b (draining_page g) free) s.word s.shared))
    go true = then_done (becomes_orderly s f (draining_page g) s.shared
        (λ g e. absurd (clash {x = draining_page _} {y = page g} e refl)) refl)
    go false = then_done (becomes_orderly s f free s.shared (λ g e. absurd (clash {x = free} {y = page g} e refl)) refl)

share_orderly : (s : State) (g f h w : ℕ) → Then (Orderly s) (share s g f h w)
unfolding share
share_orderly s g f h w = checked 5 λ e1. checked 12 λ e2. checked 4 λ e3. checked 9 λ e4. checked 13 λ e5. checked 14 λ e6.
    then_done (becomes_orderly s f (page g) (upd2 s.shared f h (cond (eqb w 0) 1 2)) (λ g' e. page_of_is (s.kind f) g e4 ∙ e) refl)

unshare_orderly : (s : State) (g f h : ℕ) → Then (Orderly s) (unshare s g f h)
unfolding unshare
unshare_orderly s g f h = checked 5 λ e1. checked 4 λ e2. checked 9 λ e3. checked 13 λ e4. checked 14 λ e5.
    then_done (becomes_orderly s f (page g) (upd2 s.shared f h 0)
    (λ g' e. page_of_is (s.kind f) g (and_true (is_page_of (s.kind f) g) (ltb 0 (s.shared f h)) e3).0 ∙ e) refl)

pub orderly : (s : State) (c : Core s) (o : Operation) → Chooses s o → Then (Orderly s) (answer s o)
unfolding answer create give destroy invalidated
orderly s c (Create g pick) ch = checked 1 λ e1. checked 2 λ e2. checked 3 λ e3. then_done
    (root_orderly s g (pick 0) (first_free s c pick ch (leb-true 1 (free_frames s) e3)))
orderly s c (Give f g) ch = checked 5 λ e1. checked 4 λ e2. checked 6 λ e3. then_done
    (given_orderly s c f g (upd s.shared f zeros) (free_is (s.kind f) e3))
orderly s c (Take f g) ch = take_orderly s f g
orderly s c (Map f g a r pick) ch = map_orderly s c f g a r pick ch
orderly s c (Unmap a g) ch = unmap_orderly s c g a
orderly s c (Share g f h w) ch = share_orderly s g f h w
orderly s c (Unshare g f h) ch = unshare_orderly s g f h
orderly s c (Destroy g) ch = checked 5 λ e1. checked 13 λ e2. then_done (destroyed_orderly s g)
orderly s c (Invalidated g) ch = checked 1 λ e1. then_done (clean_orderly s g)
