-- A word is stored where no table is, by a guest or by the host: the view has that word, and what the paths need still holds.
use mathlib.Core.Path.{◌≡◌, refl, sym, ap, ◌∙◌, subst}
use mathlib.Core.Bool.{true, false, true≢false}
use Prim.Native.Nat.{ℕ, ◌<◌, ◌/◌, ◌%◌}
use native.Mathlib.Omega.{arith}
use Rattle.model.specs.Base.{upd2}
use Rattle.model.proofs.Laws.Base.{upd2_other}
use Rattle.model.specs.State
use Rattle.model.specs.Machine.{stored}
use Rattle.model.proofs.Invariant.Store.{core_reworded}
use Rattle.model_moves.specs.Spaces.{store}
use Rattle.model_moves.specs.Cache.{nothing_kept}
use Rattle.model_moves.specs.Moves.{untabled}
use Rattle.model_moves.specs.Machine.{byte_stored}
use Rattle.model_moves.proofs.Invariant.Core.{Core}
use Rattle.model_moves.proofs.Invariant.Ledger.{put_holds}
use Rattle.model_moves.proofs.Invariant.Holds.{nothing_ok}
use Rattle.model_paths.specs.View.{use_of, view}
use Rattle.model_paths.specs.Goes.{Ready}
use Rattle.model_paths.proofs.Laws.View.{same, words_low, words_store}

pub word_view : (s : State.State) (f i x : ℕ) → i < 512 → store (view s) f i x ≡ view (State.reworded s (upd2 s.word f i x))
word_view s f i x l =
    same (store (view s) f i x) (view (State.reworded s (upd2 s.word f i x))) refl refl (λ f. refl) (λ f d. refl) (λ f d j. refl)
    (λ d. refl) (λ d j v. refl) (words_store s.word f i x l)

pub byte_view : (s : State.State) (f o b : ℕ) → o < 4096 → byte_stored (view s) f o b ≡ view (stored s f o b)
unfolding stored
byte_view s f o b l =
    let low = words_low s.word f (o / 8) (omega arith) in
    ap (λ (n : ℕ). store (view s) f (o / 8) (State.put_byte (o % 8) n b)) low
    ∙ word_view s f (o / 8) (State.put_byte (o % 8) (s.word f (o / 8)) b) (omega arith)

-- a frame that holds a table, in use or draining, holds one in the view
pub tabled_so : (x : State.KindOfFrame) → State.tabled x ≡ true → untabled (use_of x) ≡ false
tabled_so State.monitor e = absurd (true≢false (sym e))
tabled_so State.free e = absurd (true≢false (sym e))
tabled_so (State.table g h p) e = refl
tabled_so (State.draining_table g h p) e = refl
tabled_so (State.page g) e = absurd (true≢false (sym e))
tabled_so (State.draining_page g) e = absurd (true≢false (sym e))

pub untabled_so : (x : State.KindOfFrame) → State.tabled x ≡ false → untabled (use_of x) ≡ true
untabled_so State.monitor e = refl
untabled_so State.free e = refl
untabled_so (State.table g h p) e = absurd (true≢false e)
untabled_so (State.draining_table g h p) e = absurd (true≢false e)
untabled_so (State.page g) e = refl
untabled_so (State.draining_page g) e = refl

pub word_ready : (s : State.State) → Ready s → (f i x : ℕ) → i < 512 → untabled (use_of (s.kind f)) ≡ true →
    Ready (State.reworded s (upd2 s.word f i x))
word_ready s y f i x l u = record {
  ledger = core_reworded s (upd2 s.word f i x) beside y.ledger;
  ended = record { gone = y.ended.gone };
  spaces =
      subst Core (word_view s f i x l) (put_holds (view s) f i x u nothing_kept
      (record { core = y.spaces; kept = nothing_ok (view s) })).core;
}
  where
    beside : (t : ℕ) → State.tabled (s.kind t) ≡ true → (n : ℕ) → upd2 s.word f i x t n ≡ s.word t n
    beside t h n = upd2_other s.word f i x t n (λ (e : t ≡ f) z.
        true≢false (sym u ∙ ap (λ (a : ℕ). untabled (use_of (s.kind a))) (sym e) ∙ tabled_so (s.kind t) h))

pub byte_ready : (s : State.State) → Ready s → (f o b : ℕ) → o < 4096 → untabled (use_of (s.kind f)) ≡ true → Ready (stored s f o b)
unfolding stored
byte_ready s y f o b l u = word_ready s y f (o / 8) (State.put_byte (o % 8) (s.word f (o / 8)) b) (omega arith) u
