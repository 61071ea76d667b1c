-- What today's invariant says of the view.
use mathlib.Core.Path.{◌≡◌, refl, sym, ap, ◌∙◌}
use mathlib.Core.Bool.{true, true≢false}
use mathlib.Core.Logic.{◌⊎◌, inl, inr}
use Prim.Native.Nat.{ℕ, zero, suc, ◌+◌, ◌*◌, ◌-◌, ◌<◌, ◌/◌, ◌%◌}
use native.Mathlib.Omega.{arith}
use lib.Dec.{ltb, leb}
use borrow.Author.Tests.{ltb-true, leb-true}
use Rattle.model.proofs.Laws.Base.{and_true, sum_zero}
use Rattle.model.specs.State
use Rattle.model.specs.Entry.{Entry, empty, to_table, to_page, other, entry}
use Rattle.model.proofs.Laws.Entry.{is_empty, is_table, is_to_page, page_low, descriptor_empty, descriptor_table, descriptor_page}
use Rattle.model.specs.Translate.{upper}
use Rattle.model.specs.Cache.{output, descriptor, inside}
use Rattle.model.specs.Invariant.{May, Fits, Core}
use Rattle.model.proofs.Invariant.Core.{low, in_room}
use Rattle.model.proofs.Invariant.Counts.{places_zero}
use Rattle.model.proofs.Invariant.Pages.{may_room}
use Rattle.model_moves.specs.Spaces.{monitor, free, claimed, table, page, draining, Has}
use Rattle.model_moves.proofs.Invariant.Core.{clash, no_output, next_not}
use Rattle.model_moves.proofs.Invariant.Entries.{same_frame}
use Rattle.model_paths.specs.View.{use_of, view}
use Rattle.model_paths.proofs.Laws.View.{words_low}
use Rattle.model_paths.specs.Goes.{Ended}

pub kind_table : (x : State.KindOfFrame) (c h p : ℕ) → use_of x ≡ table c h p → (x ≡ State.table c h p) ⊎ (x ≡ State.draining_table c h p)
kind_table State.monitor c h p e = absurd (clash {x = monitor} {y = table c h p} e refl)
kind_table State.free c h p e = absurd (clash {x = free} {y = table c h p} e refl)
kind_table (State.table a b d) c h p e = inl (cc)
kind_table (State.draining_table a b d) c h p e = inr (cc)
kind_table (State.page g) c h p e = absurd (clash {x = page g} {y = table c h p} e refl)
kind_table (State.draining_page g) c h p e = absurd (clash {x = draining g} {y = table c h p} e refl)

pub kind_page : (x : State.KindOfFrame) (g : ℕ) → use_of x ≡ page g → x ≡ State.page g
kind_page State.monitor g e = absurd (clash {x = monitor} {y = page g} e refl)
kind_page State.free g e = absurd (clash {x = free} {y = page g} e refl)
kind_page (State.table a b d) g e = absurd (clash {x = table a b d} {y = page g} e refl)
kind_page (State.draining_table a b d) g e = absurd (clash {x = table a b d} {y = page g} e refl)
kind_page (State.page h) g e = cc
kind_page (State.draining_page h) g e = absurd (clash {x = draining h} {y = page g} e refl)

pub not_claimed : (x : State.KindOfFrame) (c h p : ℕ) → use_of x ≡ claimed c h p → ⊥
not_claimed State.monitor c h p e = clash {x = monitor} {y = claimed c h p} e refl
not_claimed State.free c h p e = clash {x = free} {y = claimed c h p} e refl
not_claimed (State.table a b d) c h p e = clash {x = table a b d} {y = claimed c h p} e refl
not_claimed (State.draining_table a b d) c h p e = clash {x = table a b d} {y = claimed c h p} e refl
not_claimed (State.page g) c h p e = clash {x = page g} {y = claimed c h p} e refl
not_claimed (State.draining_page g) c h p e = clash {x = draining g} {y = claimed c h p} e refl

module _ (s : State.State) (c : Core s) where
  -- an output stands in a last table, and is the page that the entry says
  pub output_is : (g h q x y r : ℕ) → Fits s.kind (May s) g h q (entry s.first x) → descriptor h x ≡ output y r →
      (h ≡ 0) × ((f : ℕ) × (y ≡ s.first + f) × (entry s.first x ≡ to_page f r))
  output_is g h q x y r k d = go h (entry s.first x) refl k d
    where
      go : (h : ℕ) (z : Entry) → entry s.first x ≡ z → Fits s.kind (May s) g h q z → descriptor h x ≡ output y r →
          (h ≡ 0) × ((f : ℕ) × (y ≡ s.first + f) × (entry s.first x ≡ to_page f r))
      go h empty i k d = absurd (no_output (ap (descriptor h) (is_empty s.first x i) ∙ descriptor_empty h) d)
      go zero (to_table t) i k d = absurd k
      go (suc h) (to_table t) i k d =
          absurd (next_not (ap (descriptor (suc h)) (is_table s.first x t i)
          ∙ descriptor_table s.first t (in_room s c t (State.table g h q) k refl) h) d)
      go zero (to_page f r') i k d =
          let a : output (s.first + f) r' ≡ output y r = sym
          (descriptor_page s.first f r' (may_room s c g f r' k) (page_low s.first x f r' i))
          ∙ ap (descriptor 0) (sym (is_to_page s.first x f r' i)) ∙ d in
          let r= : r' ≡ r = cc in
          (refl, (f, cc, i ∙ ap (to_page f) r=))
      go (suc h) (to_page f r') i k d = absurd k
      go h (other z) i k d = absurd k

  -- where the counts say that a guest has a frame nowhere, its tables do not have it
  pub has_none : Ended s → (g f r : ℕ) → s.exists g ≡ true → s.count f g ≡ 0 → Has (view s) g f r → ⊥
  unfolding inside
  has_none n g f r l z (a) =
      let v = a.0 in let h = a.1 in let t = a.2 in let y = a.4 in
      elim a.3 [
        | inr k ↦ not_claimed (s.kind t) g h (upper h v / 512) k
        | inl k ↦ elim (kind_table (s.kind t) g h (upper h v / 512) k) [
          | inr e ↦ true≢false (sym l ∙ (n.gone t g h (upper h v / 512) e).0)
          | inl e ↦
              let i = upper h v % 512 in
              let i< : upper h v % 512 < 512 = omega arith in
              let d = ap (descriptor h) (sym (words_low s.word t i i<)) ∙ y.1 in
              let o = output_is g h (upper h v / 512 * 512 + i) (s.word t i) y.0 r (c.tables t g h (upper h v / 512) e i i<) d in
              let b = o.1 in
              let at : inside h y.0 v ≡ y.0 = ap (λ (m : ℕ). inside m y.0 v) o.0 in
              let f= = same_frame s.first b.0 f y.0 b.1 (sym at ∙ y.2) in
              let e0 = ap (λ (m : ℕ). State.table g m (upper h v / 512)) o.0 in
              places_zero s f g (sym (c.counts f g) ∙ z) t (upper h v / 512) i r
              (low s c t (State.table g h (upper h v / 512)) e refl) i< (e ∙ e0) (b.2 ∙ ap (λ (m : ℕ). to_page m r) f=)
        ]
      ]

  -- a sum over the guests that is 0, where the others have 0
  pub none_of : (n : ℕ → ℕ) → State.total n ≡ 0 → (g : ℕ) → State.is_guest g ≡ true → n g ≡ 0
  unfolding State.total
  none_of n e g l =
      let a = and_true (ltb 0 g) (leb g 4) l in
      let p = ltb-true 0 g a.0 in
      let q = leb-true g 4 a.1 in
      let z = sum_zero 4 (λ h. n (suc h)) e (g - 1) (omega arith) in
      ap n (omega arith) ∙ z
