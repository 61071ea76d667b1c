-- create: a free frame is cleared word by word, and becomes the root of a space.
use mathlib.Core.Path.{◌≡◌, refl, sym, ap, ◌∙◌}
use mathlib.Core.Bool.{true, false, true≢false, not, cond}
use mathlib.Core.Logic.{◌⊎◌, inl, inr}
use Prim.Native.Nat.{ℕ, ◌+◌, ◌-◌, ◌%◌}
use native.Mathlib.Omega.{arith}
use lib.Dec.{eqb, ltb, leb}
use borrow.Author.Tests.{eq-eqb, ne_eqb, lt-ltb, le-ltb, leb-true, le-leb, lt-leb}
use Rattle.model.proofs.Laws.Base.{eq?, lt?, and_true, not_true, upd_at, upd_other}
use Rattle.model.specs.Base.{upd}
use Rattle.model.specs.State
use Rattle.model.specs.Changes.{Choice, zeros, with_root}
use Rattle.model.specs.Operations.{create}
use Rattle.model.proofs.Laws.Entry.{descriptor_empty}
use Rattle.model.specs.Cache.{invalid, descriptor}
use Rattle.model.specs.Invariant.{Core}
use Rattle.model.proofs.Invariant.Choice.{first_free}
use Rattle.model.proofs.Invariant.Answer.{Then, then_done, checked}
use Rattle.model_moves.specs.Spaces.{Space, free, table, with_word}
use Rattle.model_moves.specs.Moves.{open_space, Open, rooted}
use Rattle.model_moves.proofs.Laws.Paths.{stay, by, onward, way_to}
use Rattle.model_paths.specs.View.{whole_slot, use_of, waits_of, words_of, view}
use Rattle.model_paths.proofs.Laws.View.{same, same_space, clearing}
use Rattle.model_paths.specs.Goes.{Goes, Ended}
use Rattle.model_paths.proofs.Laws.Reads.{kind_table, kind_page, not_claimed}
use Rattle.model_paths.proofs.Operations.Frames.{and_false, no_word, above}
use Rattle.model.specs.Machine.{Create}
use Rattle.model_moves.specs.Path.{Deed, puts, opens, Way}

module _ (s : State.State) (c : Core s) (n : Ended s) where
  create_path : (g t : ℕ) → s.exists g ≡ false → s.dirty g ≡ false → s.kind t ≡ State.free →
      Way (λ d. (d ≡ puts t free) ⊎ (d ≡ opens g)) (view s) (view (with_root s g t))
  unfolding with_root zeros
  create_path g t no_g clean e =
      let D : Deed → Type 0 = λ d. (d ≡ puts t free) ⊎ (d ≡ opens g) in
      onward D (clearing D s t e (inl refl)) (by D (open_space g new premises) (inr refl) (way_to D (stay D)
      (same _ (view (with_root s g t)) refl refl kinds (λ f d. refl) waits spaces (λ d j v. refl) (λ f i. refl))))
    where
      new : Space
      new = record { exists = true; serves = g; height = 3; wide = 1; root = t }

      premises : Open (with_word (view s) (words_of (upd s.word t (λ i. 0)))) g new
      premises = record {
        new = no_g;
        begins = refl;
        clean = λ j v. and_false (eqb j whole_slot) (s.dirty g) clean;
        none = λ u h p. (
          λ k. elim (kind_table (s.kind u) g h p k) [
            | inl x ↦ true≢false (sym (c.table_exists u g h p x) ∙ no_g)
            | inr x ↦ true≢false
                (sym (n.gone u g h p x).1 ∙ clean)
          ],
          not_claimed (s.kind u) g h p,
        );
        spare = λ p l. let z : t + p ≡ t = omega arith in
            (ap (λ (u : ℕ). use_of (s.kind u)) z ∙ ap use_of e, λ i. zero_at (t + p) (i % 512) z);
        unlent = λ f o k. c.strangers f o g (kind_page (s.kind f) o k) no_g;
        pageless = λ q f k. true≢false (sym (c.page_exists f g (kind_page (s.kind f) g k)) ∙ no_g);
      }
        where
          zero_at : (u i : ℕ) → u ≡ t → descriptor 3 (words_of (upd s.word t (λ i. 0)) u i) ≡ invalid
          zero_at u i q =
              ap (descriptor 3) (ap (λ (z : ℕ → ℕ). cond (ltb i 512) (z i) 0) (upd_at s.word t (λ i. 0) u q) ∙ no_word (ltb i 512))
              ∙ descriptor_empty 3

      is_root : (u : ℕ) → rooted new u ≡ eqb u t
      is_root u = elim (eq? u t) [
        | inl p ↦ rw (eq-eqb u t p, le-leb t u (omega arith), lt-ltb u (t + 1) (omega arith))
        | inr p ↦ rw (ne_eqb u t p) (elim (lt? u t) [
          | inl l ↦ rw (lt-leb t u l)
          | inr l ↦ and_false (leb t u) (ltb u (t + 1)) (le-ltb u (t + 1) (above u t l p))
        ])
      ]

      kinds : (u : ℕ) → cond (rooted new u) (table g 3 (u - t)) (use_of (s.kind u)) ≡ use_of (upd s.kind t (State.table g 3 0) u)
      kinds u = elim (eq? u t) [
        | inl p ↦ let z : u - t ≡ 0 = omega arith in rw (is_root u, eq-eqb u t p, z, upd_at s.kind t (State.table g 3 0) u p)
        | inr p ↦ rw (is_root u, ne_eqb u t p, upd_other s.kind t (State.table g 3 0) u p)
      ]

      waits : (u d j : ℕ) → waits_of (s.kind u) d j ≡ waits_of (upd s.kind t (State.table g 3 0) u) d j
      waits u d j = elim (eq? u t) [
        | inl p ↦ ap (λ x. waits_of x d j) (ap s.kind p ∙ e)
            ∙ ap (λ x. waits_of x d j) (sym (upd_at s.kind t (State.table g 3 0) u p))
        | inr p ↦ ap (λ x. waits_of x d j) (sym (upd_other s.kind t (State.table g 3 0) u p))
      ]

      spaces : (d : ℕ) → upd (view s).space g new d ≡
          record { exists = upd s.exists g true d; serves = d; height = 3; wide = 1; root = upd s.root g t d }
      spaces d = elim (eq? d g) [
        | inl p ↦ upd_at (view s).space g new d p
            ∙ same_space new ((view (with_root s g t)).space d) (sym (upd_at s.exists g true d p)) (sym p) refl refl
            (sym (upd_at s.root g t d p))
        | inr p ↦ upd_other (view s).space g new d p
            ∙ same_space ((view s).space d) ((view (with_root s g t)).space d) (sym (upd_other s.exists g true d p)) refl refl refl
            (sym (upd_other s.root g t d p))
      ]

  pub create_goes : (g : ℕ) (pick : ℕ → ℕ) → Choice s pick → Then (Goes s (Create g pick)) (create s g pick)
  unfolding create
  create_goes g pick ch = checked 1 λ e1. checked 2 λ e2. checked 3 λ e3.
      let a = and_true (not (s.exists g)) (not (s.dirty g)) e2 in
      then_done (create_path g (pick 0) (not_true (s.exists g) a.0) (not_true (s.dirty g) a.1)
      (first_free s c pick ch (leb-true 1 (State.free_frames s) e3)))
