-- Over words that agree, an operation answers the same, and its effect is the same but for words that nobody looked at: the nine
-- operations.
use mathlib.Core.Path.{◌≡◌, refl, sym, ap, ◌∙◌}
use mathlib.Core.Bool.{Bool, true, false, true≢false, not, ◌&&◌, ◌||◌, cond}
use mathlib.Core.Logic.{◌⊎◌, inl, inr}
use mathlib.Core.Option.{some}
use Prim.Native.Nat.{ℕ, zero, suc, ◌+◌, ◌*◌, ◌≤◌, ◌<◌, ◌/◌, ◌%◌}
use native.Mathlib.Omega.{arith}
use lib.Dec.{eqb, ltb, leb}
use borrow.Author.Tests.{leb-true}
use Rattle.model.proofs.Laws.Base.{eq?, bool?, and_true}
use Rattle.model.specs.Base.{upd, upd2}
use Rattle.model.proofs.Laws.Base.{upd_at, upd_other, upd2_at, upd2_other}
use Rattle.model.specs.State.{State, KindOfFrame, free, table, draining_table, page, draining_page, is_page_of, free_frames, page_count, byte, reworded, tabled}
use Rattle.model.specs.Entry.{Entry, empty, to_table, to_page, other, entry, page_entry, table_entry}
use Rattle.model.specs.Translate.{upper, index, entry_at, into, leaf, translate, missing_from, missing}
use Rattle.model.specs.Changes.{Choice, zeros, becomes, with_root, with_table, Grown, grow, with_page, with_mapping, without_page, without_mapping, drained, without_guest, released, clean}
use Rattle.model.specs.Operations.{Out, refuse, done, check, may_map, narrows, unshared, create, give, map, unmap, share, unshare, take, destroy, invalidated}
use Rattle.model.specs.Machine.{Operation, Create, Give, Take, Map, Unmap, Share, Unshare, Destroy, Invalidated, answer, Chooses}
use Rattle.model_noninterference.specs.TwoRunsTerms.{reads, SameBytes, Shows, answered}
use Rattle.model.proofs.Invariant.Kinds.{page_of_is}
use Rattle.model.specs.Invariant.{Core}
use Rattle.model.proofs.Invariant.Way.{root_serves, step_kind, descend_same, translate_from}
use Rattle.model.proofs.Invariant.Destroy.{Was, stays, was_table, was_page, was}
use Rattle.model.proofs.Invariant.Invalidated.{stays_or_free}
use Rattle.model.proofs.Invariant.Grow.{Links, linked, grow_by}
use Rattle.model.proofs.Invariant.MapUnmap.{address_low, some_is}
use Rattle.model.proofs.Invariant.Effects.{same_translate}
use Rattle.model_noninterference.proofs.Invariant.Agrees.{SameFrame, Agrees, agrees_set, agrees_zero, agrees_less}

-- two answers: refused alike, or done with states that stand so to one another
pub data Both (P : State → State → Type 0) : Out → Out → Type 0 where
  both_refuse : {a : ℕ} → Both P (refuse a) (refuse a)
  both_done : {s s' : State} → P s s' → Both P (done s) (done s')

pub both_checked : {P : State → State → Type 0} {b b' : Bool} (a : ℕ) {o o' : Out} → b' ≡ b → (b ≡ true → Both P o o') →
    Both P (check b a o) (check b' a o')
unfolding check
both_checked {P} {b} {b'} a {o} {o'} e h = rw e (go b h)
  where
    go : (b : Bool) → (b ≡ true → Both P o o') → Both P (check b a o) (check b a o')
    go true h = h refl
    go false h = both_refuse

-- the same ledger over words that agree for guest g
abbrev pub Echo : (g : ℕ) → State → State → Type 0
Echo g s s' = (w : ℕ → ℕ → ℕ) × (s' ≡ reworded s w) × Agrees g s.kind s.shared s.word w

-- a test of a frame that is passed after guest h is destroyed, or its invalidation reported, was passed before
module _ (h : ℕ) (T : KindOfFrame → Bool) where
  drained_passed : ((n p : ℕ) → T (draining_table h n p) ≡ true → T (table h n p) ≡ true) →
      (T (draining_page h) ≡ true → T (page h) ≡ true) → (x : KindOfFrame) → T (drained h x) ≡ true → T x ≡ true
  drained_passed a b x e = go (was h x)
    where
      go : Was h x → T x ≡ true
      go (stays p q r) = sym (ap T p) ∙ e
      go (was_table n p q r) = ap T q ∙ a n p (sym (ap T r) ∙ e)
      go (was_page q r) = ap T q ∙ b (sym (ap T r) ∙ e)

  released_passed : T free ≡ false → (x : KindOfFrame) → T (released h x) ≡ true → T x ≡ true
  released_passed n x e = elim (stays_or_free h x) [ inl a ↦ sym (ap T a) ∙ e | inr a ↦ absurd (true≢false (sym e ∙ ap T a ∙ n)) ]

module _ (g : ℕ) (s : State) (w : ℕ → ℕ → ℕ) (m : Agrees g s.kind s.shared s.word w) where
  -- the small changes
  root_echo : (h t : ℕ) → Echo g (with_root s h t) (with_root (reworded s w) h t)
  unfolding with_root
  root_echo h t = (
    upd w t zeros,
    refl,
    agrees_zero g s.kind s.shared s.word w m t (upd s.kind t (table h 3 0)) s.shared
        (λ u ne. upd_other s.kind t (table h 3 0) u ne) (λ u ne. refl),
  )

  table_agrees : (t i t' g' h q : ℕ) → Agrees g (with_table s t i t' g' h q).kind (with_table s t i t' g' h q).shared
      (with_table s t i t' g' h q).word (upd2 (upd w t' zeros) t i (table_entry s.first t'))
  unfolding with_table
  table_agrees t i t' g' h q =
      agrees_set g (upd s.kind t' (table g' h q)) s.shared (upd s.word t' zeros) (upd w t' zeros)
      (agrees_zero g s.kind s.shared s.word w m t' (upd s.kind t' (table g' h q)) s.shared
      (λ u ne. upd_other s.kind t' (table g' h q) u ne) (λ u ne. refl)) t i (table_entry s.first t')

  page_echo : (t i f r g' : ℕ) → Echo g (with_page s t i f r g') (with_page (reworded s w) t i f r g')
  unfolding with_page
  page_echo t i f r g' = (
    upd2 w t i (page_entry s.first f r),
    refl,
    agrees_set g s.kind s.shared s.word w m t i (page_entry s.first f r),
  )

  empty_echo : (t i f g' : ℕ) → Echo g (without_page s t i f g') (without_page (reworded s w) t i f g')
  unfolding without_page
  empty_echo t i f g' = (upd2 w t i 0, refl, agrees_set g s.kind s.shared s.word w m t i 0)

  guest_echo : (h : ℕ) → Echo g (without_guest s h) (without_guest (reworded s w) h)
  unfolding without_guest
  guest_echo h = (
    w,
    refl,
    agrees_less g s.kind s.shared s.word w m (λ f. drained h (s.kind f)) s.shared
        (λ t. drained_passed h tabled (λ n p e. refl) (λ e. e) (s.kind t))
        (λ f e. inl (drained_passed h (λ x. reads g x (s.shared f g)) (λ n p e. e) (λ (e : eqb h g ≡ true). rw e) (s.kind f) e)),
  )

  clean_echo : (h : ℕ) → Echo g (clean s h) (clean (reworded s w) h)
  unfolding clean
  clean_echo h = (
    w,
    refl,
    agrees_less g s.kind s.shared s.word w m (λ f. released h (s.kind f)) s.shared
        (λ t. released_passed h tabled refl (s.kind t))
        (λ f e. inl (released_passed h (λ x. reads g x (s.shared f g)) refl (s.kind f) e)),
  )

  given_echo : (f h : ℕ) → Echo g (becomes s f (page h) (upd s.word f zeros) (upd s.shared f zeros))
      (becomes (reworded s w) f (page h) (upd w f zeros) (upd s.shared f zeros))
  unfolding becomes
  given_echo f h = (
    upd w f zeros,
    refl,
    agrees_zero g s.kind s.shared s.word w m f (upd s.kind f (page h)) (upd s.shared f zeros)
        (λ u ne. upd_other s.kind f (page h) u ne) (λ u ne. ap (λ (x : ℕ → ℕ). x g) (upd_other s.shared f zeros u ne)),
  )

  -- frame f becomes y, no table, with these shares: what is shown of it then was shown, or is the same
  becomes_echo : (f : ℕ) (y : KindOfFrame) (sh : ℕ → ℕ → ℕ) → tabled y ≡ false → ((u : ℕ) → (u ≡ f → ⊥) → sh u g ≡ s.shared u g) →
      (reads g y (sh f g) ≡ true → (reads g (s.kind f) (s.shared f g) ≡ true) ⊎ SameFrame (s.word f) (w f)) →
      Echo g (becomes s f y s.word sh) (becomes (reworded s w) f y w sh)
  unfolding becomes
  becomes_echo f y sh no_table others here = (
    w,
    refl,
    agrees_less g s.kind s.shared s.word w m (upd s.kind f y) sh
        (λ t e. elim (eq? t f) [
          | inl p ↦ let z : false ≡ true = sym no_table ∙ ap tabled (sym (upd_at s.kind f y t p)) ∙ e in cc
          | inr p ↦ rw (upd_other s.kind f y t p) at e
        ])
        (λ u e. elim (eq? u f) [
          | inl p ↦ rw p (here (rw (upd_at s.kind f y u p, p) at e))
          | inr p ↦ inl (rw (upd_other s.kind f y u p, others u p) at e)
        ]),
  )

  -- what the tables say
  module _ (c : Core s) where
    table_words : (t h n p : ℕ) → s.kind t ≡ table h n p → (i : ℕ) → entry_at (reworded s w) t i ≡ entry_at s t i
    table_words t h n p a i = ap (entry s.first) (m.tables t (ap tabled a) i)

    same_pages : (h v : ℕ) → v < page_count → translate (reworded s w) h v ≡ translate s h v
    same_pages h v l = same_translate s c (reworded s w) h refl refl table_words v l

    same_leaf : (h v : ℕ) → v < page_count → leaf (reworded s w) h v ≡ leaf s h v
    unfolding leaf
    same_leaf h v l = elim (bool? (s.exists h)) [
      | inl e ↦ rw e (descend_same s c (reworded s w) (λ t g n p a i. table_words t g (suc n) p a i) h 3 (s.root h) v
          (root_serves (s.kind (s.root h)) h v (c.roots h e) l))
      | inr e ↦ rw e
    ]

    same_missing_from : (h n t v : ℕ) → s.kind t ≡ table h n (upper (suc n) v) → missing_from (reworded s w) n t v ≡ missing_from s n t v
    unfolding missing_from
    same_missing_from h zero t v a = refl
    same_missing_from h (suc n) t v a = rw (table_words t h (suc n) (upper (suc (suc n)) v) a (index (suc n) v))
        (go (same_missing_from h n) (entry_at s t (index (suc n) v)) refl)
      where
        go : ((t v : ℕ) → s.kind t ≡ table h n (upper (suc n) v) → missing_from (reworded s w) n t v ≡ missing_from s n t v) →
            (x : Entry) → entry_at s t (index (suc n) v) ≡ x →
            into (entry_at s t (index (suc n) v)) (suc n) (λ t'. missing_from (reworded s w) n t' v) ≡
            into (entry_at s t (index (suc n) v)) (suc n) (λ t'. missing_from s n t' v)
        go ih empty q = rw q
        go ih (to_table t') q = rw q (ih t' v (step_kind s c h n t v t' a q))
        go ih (to_page f r) q = rw q
        go ih (other x) q = rw q

    same_missing : (h v : ℕ) → s.exists h ≡ true → v < page_count → missing (reworded s w) h v ≡ missing s h v
    same_missing h v e l = same_missing_from h 3 (s.root h) v (root_serves (s.kind (s.root h)) h v (c.roots h e) l)

    unmapped_echo : (h v t f r : ℕ) → v < page_count → leaf s h v ≡ some t → translate s h v ≡ some (f, r) →
        Echo g (without_mapping s h v) (without_mapping (reworded s w) h v)
    unfolding without_mapping
    unmapped_echo h v t f r l a b = rw (same_leaf h v l, same_pages h v l, a, b) (empty_echo t (v % 512) f h)

-- map makes the same tables in both
abbrev GrownEcho : (g : ℕ) → Grown → Grown → Type 0
GrownEcho g x x' = (w : ℕ → ℕ → ℕ) × (x' ≡ record { state = reworded x.state w; last = x.last }) ×
    Agrees g x.state.kind x.state.shared x.state.word w

module _ (g : ℕ) where
  abbrev Echoes : (h : ℕ) (s : State) (n t v : ℕ) (pick : ℕ → ℕ) → Type 0
  Echoes h s n t v pick = (w : ℕ → ℕ → ℕ) → Agrees g s.kind s.shared s.word w →
      GrownEcho g (grow h s n t v pick) (grow h (reworded s w) n t v pick)

  echo_there : (h : ℕ) (s : State) → Core s → (n t v : ℕ) (pick : ℕ → ℕ) → s.kind t ≡ table n (suc h) (upper (suc (suc h)) v) →
      (t' : ℕ) → entry_at s t (index (suc h) v) ≡ to_table t' → Echoes h s n t' v pick → Echoes (suc h) s n t v pick
  unfolding grow
  echo_there h s c n t v pick a t' d e w m = rw (table_words g s w m c t n (suc h) (upper (suc (suc h)) v) a (index (suc h) v), d) (e w m)

  echo_made : (h : ℕ) (s : State) (n t v : ℕ) (pick : ℕ → ℕ) → Links h s n t v pick →
      Echoes h (linked h s n t v pick) n (pick 0) v (λ j. pick (suc j)) → Echoes (suc h) s n t v pick
  unfolding grow
  echo_made h s n t v pick x e w m =
      let i = index (suc h) v in
      let w' = upd2 (upd w (pick 0) zeros) t i (table_entry s.first (pick 0)) in
      let same : linked h (reworded s w) n t v pick ≡ reworded (linked h s n t v pick) w' = unfold with_table in refl in
      rw (table_words g s w m x.core t n (suc h) (upper (suc (suc h)) v) x.above i, x.was, same)
      (e w' (table_agrees g s w m t i (pick 0) n h (upper (suc h) v)))

  grown_echo : (h : ℕ) (s : State) → Core s → (n t v : ℕ) (pick : ℕ → ℕ) → Choice s pick → missing_from s h t v ≤ free_frames s →
      s.kind t ≡ table n h (upper (suc h) v) → Echoes h s n t v pick
  unfolding grow
  grown_echo = grow_by Echoes (λ s c n t v pick a w m. (w, refl, m)) echo_there echo_made

-- bytes by number, and by word
pub frame_bytes : (s s' : State) (f f' : ℕ) → SameBytes s s' f f' → SameFrame (s.word f) (s'.word f')
unfolding byte
frame_bytes s s' f f' e j k l n =
    let x : (j * 8 + k) / 8 ≡ j = omega arith in
    let y : (j * 8 + k) % 8 ≡ k = omega arith in
    rw (x, y) at (e (j * 8 + k) (omega arith))

pub bytes_frame : (s s' : State) (f f' : ℕ) → SameFrame (s.word f) (s'.word f') → SameBytes s s' f f'
unfolding byte
bytes_frame s s' f f' e i l = e (i / 8) (i % 8) (omega arith) (omega arith)

or_false : (a b : Bool) → b ≡ false → (a || b) ≡ true → a ≡ true
or_false true b e q = refl
or_false false b e q = sym e ∙ q

module _ (g : ℕ) (s : State) (c : Core s) (w : ℕ → ℕ → ℕ) (m : Agrees g s.kind s.shared s.word w) where
  map_echo : (f h a r : ℕ) (pick : ℕ → ℕ) → Choice s pick → Both (Echo g) (map s f h a r pick) (map (reworded s w) f h a r pick)
  unfolding map with_mapping may_map free_frames
  map_echo f h a r pick ch =
      both_checked 5 refl λ e1. both_checked 14 refl λ e2. both_checked 7 refl λ e3. both_checked 8 refl λ e4. both_checked 4 refl λ e5.
      both_checked 9 refl λ e6.
      both_checked 10 (rw (same_pages g s w m c h (a / 4096) (address_low a e3))) λ e7.
      both_checked 3 (rw (same_missing g s w m c h (a / 4096) e1 (address_low a e3))) λ e8.
      let l = address_low a e3 in
      let x = grown_echo g 3 s c h (s.root h) (a / 4096) pick ch (leb-true (missing s h (a / 4096)) (free_frames s) e8)
      (root_serves (s.kind (s.root h)) h (a / 4096) (c.roots h e1) l) w m in
      let y = grow 3 s h (s.root h) (a / 4096) pick in
      rw x.1 (both_done (page_echo g y.state x.0 x.2 y.last (a / 4096 % 512) f r h))

  unmap_echo : (h a : ℕ) → Both (Echo g) (unmap s a h) (unmap (reworded s w) a h)
  unfolding unmap
  unmap_echo h a =
      both_checked 5 refl λ e1. both_checked 7 refl λ e2. both_checked 11 (rw (same_pages g s w m c h (a / 4096) (address_low a e2))) λ e3.
      let o = some_is (translate s h (a / 4096)) e3 in
      let x = translate_from s h (a / 4096) o.0 o.1 o.2 in
      both_done (unmapped_echo g s w m c h (a / 4096) x.0 o.0 o.1 (address_low a e2) x.1 o.2)

  take_echo : (f h : ℕ) → Both (Echo g) (take s f h) (take (reworded s w) f h)
  unfolding take
  take_echo f h =
      both_checked 5 refl λ e1. both_checked 4 refl λ e2. both_checked 9 refl λ e3. both_checked 13 refl λ e4.
      both_done (go (page_of_is (s.kind f) h e3) (s.dirty h))
    where
      before : s.kind f ≡ page h → eqb h g ≡ true → reads g (s.kind f) (s.shared f g) ≡ true
      before hf e = rw (hf, e)

      go : s.kind f ≡ page h → (b : Bool) → Echo g (becomes s f (cond b (draining_page h) free) s.word s.shared)
          (becomes (reworded s w) f (cond b (draining_page h) free) w s.shared)
      go hf true = becomes_echo g s w m f (draining_page h) s.shared refl (λ u ne. refl) (λ e. inl (before hf e))
      go hf false = becomes_echo g s w m f free s.shared refl (λ u ne. refl) (λ e. let z : false ≡ true = e in inl (cc))

  share_echo : (o f h x : ℕ) → ((f' : ℕ) → Shows (Share o f h x) g f' → answered (share s o f h x) ≡ true →
      SameFrame (s.word f') (w f')) → Both (Echo g) (share s o f h x) (share (reworded s w) o f h x)
  unfolding share
  share_echo o f h x opens =
      both_checked 5 refl λ e1. both_checked 12 refl λ e2. both_checked 4 refl λ e3. both_checked 9 refl λ e4. both_checked 13 refl λ e5.
      both_checked 14 refl λ e6.
      both_done (becomes_echo g s w m f (page o) (upd2 s.shared f h (cond (eqb x 0) 1 2)) refl
      (λ u ne. upd2_other s.shared f h (cond (eqb x 0) 1 2) u g (λ y z. ne y))
      (λ e. elim (eq? h g) [
        | inl p ↦ inr (opens f (p, refl) (given e1 e2 e3 e4 e5 e6))
        | inr p ↦ inl (rw (page_of_is (s.kind f) o e4) (rw (upd2_other s.shared f h (cond (eqb x 0) 1 2) f g (λ y z. p (sym z))) at e))
      ]))
    where
      given : (s.exists o && s.exists h) ≡ true → not (eqb o h) ≡ true → ltb f s.size ≡ true → is_page_of (s.kind f) o ≡ true →
          (not (narrows s f h x) || eqb (s.count f h) 0) ≡ true →
          (not (narrows s f h x) || not (s.dirty h)) ≡ true → answered (share s o f h x) ≡ true
      given e1 e2 e3 e4 e5 e6 = unfold share check in rw (e1, e2, e3, e4, e5, e6)

  unshare_echo : (o f h : ℕ) → Both (Echo g) (unshare s o f h) (unshare (reworded s w) o f h)
  unfolding unshare
  unshare_echo o f h =
      both_checked 5 refl λ e1. both_checked 4 refl λ e2. both_checked 9 refl λ e3. both_checked 13 refl λ e4. both_checked 14 refl λ e5.
      let hf = page_of_is (s.kind f) o (and_true (is_page_of (s.kind f) o) (ltb 0 (s.shared f h)) e3).0 in
      both_done (becomes_echo g s w m f (page o) (upd2 s.shared f h 0) refl (λ u ne. upd2_other s.shared f h 0 u g (λ y z. ne y))
      (λ e. elim (eq? h g) [
        | inl p ↦ let z : eqb o g ≡ true = or_false (eqb o g) (leb 1 0) refl (rw (upd2_at s.shared f h 0 f g refl (sym p)) at e)
            in inl (rw (hf, z))
        | inr p ↦ inl (rw hf (rw (upd2_other s.shared f h 0 f g (λ y z. p (sym z))) at e))
      ]))

  pub answer_echo : (o : Operation) → Chooses s o → ((f : ℕ) → Shows o g f → answered (answer s o) ≡ true →
      SameFrame (s.word f) (w f)) → Both (Echo g) (answer s o) (answer (reworded s w) o)
  unfolding answer create give destroy invalidated unshared free_frames
  answer_echo (Create h pick) ch x = both_checked 1 refl λ e1. both_checked 2 refl λ e2. both_checked 3 refl λ e3. both_done
      (root_echo g s w m h (pick 0))
  answer_echo (Give f h) ch x = both_checked 5 refl λ e1. both_checked 4 refl λ e2. both_checked 6 refl λ e3. both_done
      (given_echo g s w m f h)
  answer_echo (Take f h) ch x = take_echo f h
  answer_echo (Map f h a r pick) ch x = map_echo f h a r pick ch
  answer_echo (Unmap a h) ch x = unmap_echo h a
  answer_echo (Share o f h y) ch x = share_echo o f h y x
  answer_echo (Unshare o f h) ch x = unshare_echo o f h
  answer_echo (Destroy h) ch x = both_checked 5 refl λ e1. both_checked 13 refl λ e2. both_done (guest_echo g s w m h)
  answer_echo (Invalidated h) ch x = both_checked 1 refl λ e1. both_done (clean_echo g s w m h)
