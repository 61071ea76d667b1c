-- A frame that becomes a page, or a table, in a step: only a call does that, and the frame was free.
use mathlib.Core.Path.{◌≡◌, refl, sym, ap, ◌∙◌, subst}
use mathlib.Core.Logic.{inl, inr}
use mathlib.Core.List.{List}
use Prim.Native.Nat.{ℕ, ◌/◌}
use Rattle.model.specs.State.{free, page, table}
use Rattle.model.specs.Machine as M
use Rattle.model.proofs.Invariant.Bytes.{bytes_zero}
use Rattle.model.proofs.Invariant.Core.{low}
use Rattle.model.proofs.Invariant.Orderly.{Fresh}
use Rattle.model_moves.specs.Cache.{Reach}
use Rattle.model_moves.specs.Path.{Along}
use Rattle.model_paths.specs.View.{use_of}
use Rattle.model_paths.specs.Goes.{Does}
use Rattle.model_paths.proofs.Given.{given_unled, page_from, only_give}
use Rattle.ledger.specs.Layout.{kind_of, state_in, state_of, pick_of}
use Rattle.isolation_runs.specs.Calls.{Call, in_model}
use Rattle.isolation_runs.specs.Slices.{Slices, spaces, Called, Step, called, stored, loaded_byte, loaded_word, looked}
use Rattle.isolation_runs.specs.Terms.{Unreached, Handed, Laid}
use Rattle.isolation_runs.proofs.Laws.Steps.{Fit, step_fits}
use Rattle.isolation_runs.proofs.Isolation.Words.{page_so, unreached_so}
use Rattle.isolation_runs.proofs.Isolation.Contents.{either, byte_is}

module _ (x y : Slices) (h : Fit x) (f g : ℕ) (not_yet : kind_of x.ledger f ≡ page g → ⊥) (now : kind_of y.ledger f ≡ page g) where
  unmoved : y.ledger ≡ x.ledger → ⊥
  unmoved e = not_yet (ap (λ (l : List ℕ). kind_of l f) (sym e) ∙ now)

  module _ (c : Call) (r : ℕ) (a : Called c r x y) where
    is_give : in_model c (pick_of x.ledger) ≡ M.Give f g
    unfolding state_in
    is_give = elim (page_from (Does (state_of x.ram x.ledger) (in_model c (pick_of x.ledger))) a.path a.along f g
        (ap use_of now)) [
          | inl e ↦ absurd (not_yet (page_so x f g e))
          | inr d ↦ only_give (state_of x.ram x.ledger) (in_model c (pick_of x.ledger)) f g d
        ]

    fresh : Fresh (state_of x.ram x.ledger) (state_of y.ram y.ledger) f
    unfolding state_in
    fresh = elim (either x y h c r a) [
      | inl e ↦ absurd (unmoved e.1)
      | inr d ↦ elim (d.pages_from f g now) [ inl e ↦ absurd (not_yet e) | inr n ↦ n ]
    ]

    after : Unreached y f
    unfolding state_in Reach
    after d w b at z = given_unled f g (spaces x) (spaces y) a.path x.caches y.caches a.watched
        (subst (λ (o : M.Operation). Along (Does (state_of x.ram x.ledger) o) a.path) is_give a.along)
        h.good (ap use_of fresh.was_free) (ap use_of now) d z.0 (b / 4096) z.1 z.2 at

    by_call : Handed x y f
    unfolding state_in
    by_call = record {
      was_free = fresh.was_free;
      before = unreached_so x h f free fresh.was_free tt;
      after = after;
      all_zero = λ o l. sym (byte_is y a.answers.sound f o
          (low (state_of y.ram y.ledger) a.answers.sound.core f (page g) now refl) l)
          ∙ bytes_zero (state_of y.ram y.ledger) f fresh.zero o;
    }

  pub handed_so : Step x y → Handed x y f
  handed_so (called c r a) = by_call c r a
  handed_so (stored d f' o b a r) = absurd (unmoved a.ledger_after)
  handed_so (loaded_byte f' o b a s) = absurd (unmoved a.ledger_after)
  handed_so (loaded_word f' i v a s) = absurd (unmoved a.ledger_after)
  handed_so (looked a) = absurd (unmoved a.ledger_after)

module _ (x y : Slices) (h : Fit x) (f g n p : ℕ) (not_yet : kind_of x.ledger f ≡ table g n p → ⊥)
    (now : kind_of y.ledger f ≡ table g n p) where
  fixed : y.ledger ≡ x.ledger → ⊥
  fixed e = not_yet (ap (λ (l : List ℕ). kind_of l f) (sym e) ∙ now)

  was_free : Step x y → kind_of x.ledger f ≡ free
  unfolding state_in
  was_free (called c r a) = elim (either x y h c r a) [
    | inl e ↦ absurd (fixed e.1)
    | inr d ↦ elim (d.tables_from f g n p now) [ inl e ↦ absurd (not_yet e) | inr e ↦ e ]
  ]
  was_free (stored d f' o b a r) = absurd (fixed a.ledger_after)
  was_free (loaded_byte f' o b a s) = absurd (fixed a.ledger_after)
  was_free (loaded_word f' i v a s) = absurd (fixed a.ledger_after)
  was_free (looked a) = absurd (fixed a.ledger_after)

  pub laid_so : Step x y → Laid x y f
  laid_so s = record {
    was_free = was_free s;
    before = unreached_so x h f free (was_free s) tt;
    after = unreached_so y (step_fits h s) f (table g n p) now tt;
  }
