-- enter: an empty entry becomes a leaf.
use mathlib.Core.Path.{◌≡◌, sym, ap, ◌∙◌}
use mathlib.Core.Bool.{true≢false}
use mathlib.Core.Logic.{inl, inr}
use Prim.Native.Nat.{ℕ, ◌+◌, ◌%◌}
use Rattle.model.specs.Translate.{upper}
use Rattle.model.specs.Cache.{output, descriptor, inside}
use Rattle.model_moves.specs.Spaces.{Spaces, store}
use Rattle.model_moves.specs.Cache.{Caches}
use Rattle.model_moves.specs.Moves.{Enter}
use Rattle.model_moves.proofs.Invariant.Core.{Core, Bears, next_not, no_next, no_output, output_same}
use Rattle.model_moves.proofs.Invariant.Ledger.{Holds}
use Rattle.model_moves.proofs.Invariant.Entries.{leads_new, set_core, still_leads}

module _ (s : Spaces) (t c h q x y r : ℕ) (m : Enter s t c h q x y r) where
  pub enter_core : Core s → Core (store s t (q % 512) x)
  enter_core k =
      set_core s t c h q x m.place s.stale k (λ c f r b. record { may = b.may; held = b.held }) (λ z e. no_next m.empty e)
      (λ z e. next_not e m.reads) leaf
    where
      leaf : (v y' r' : ℕ) → upper h v ≡ q → descriptor h x ≡ output y' r' → (f : ℕ) × (inside h y' v ≡ s.first + f) × Bears s c f r'
      leaf v y' r' u d =
          let n = m.may v u in
          let z = output_same m.reads d in (
            n.0,
            ap (λ (a : ℕ). inside h a v) (sym z.0) ∙ n.1,
            rw (← z.1) (record { may = λ l. n.2; held = λ l j w. absurd (true≢false (sym m.live ∙ l)) }),
          )

  pub enter_holds : (k : Caches) → Holds s k → Holds (store s t (q % 512) x) k
  enter_holds k z = record {
    core = enter_core z.core;
    kept = record {
      table_ok = z.kept.table_ok;
      page_ok = λ c' v a r' b. let n = z.kept.page_ok c' v a r' b in (
        n.0,
        n.1,
        elim n.2 [
          | inl w ↦ inl (still_leads s t c h q x m.place (λ y' r'' e. no_output m.empty e) c' v n.0 r' w)
          | inr w ↦ let j = w.1 in inr (
            (λ f'' r'' l. elim (leads_new s t c h q x m.place c' v f'' r'' l) [
              | inl o ↦ w.0 f'' r'' o
              | inr o ↦ true≢false (sym j.1 ∙ ap (λ (d : ℕ). s.stale d j.0 v) o.0 ∙ m.fresh j.0 v o.1)
            ]),
            j,
          )
        ],
      );
      one = z.kept.one;
      one_table = z.kept.one_table;
      table_gone = z.kept.table_gone;
      page_gone = z.kept.page_gone;
    };
  }
