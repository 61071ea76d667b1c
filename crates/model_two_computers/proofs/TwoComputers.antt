-- What the hypotheses on two computers come to.
use mathlib.Core.Path.{◌≡◌, refl, sym, ap, ◌∙◌}
use mathlib.Core.Bool.{true}
use mathlib.Core.Logic.{◌⊎◌, inl, inr}
use Prim.Native.Nat.{ℕ, ◌/◌}
use Rattle.model.proofs.Laws.Base.{upd2_other}
use Rattle.model.specs.Cache.{reading}
use Rattle.model_moves.specs.Moves.{untabled}
use Rattle.model_moves.specs.Machine.{Machine, Step, moves, reports, looks, stores}
use Rattle.model_moves.specs.Terms.{Start, Allowed}
use Rattle.model_two_computers.specs.Terms.{Frames, no_frames, SameWords, Unpaired, Two, ends, repairs, StoresTo}
use Rattle.model_two_computers.proofs.Reading.{start_paired, run_paired, append}
use Rattle.model_moves.proofs.Invariant.Allowed.{page_words}

-- What the hypotheses come to. A step changes nothing in a frame that c may read unless it is a store to it, the host's or a space's: so
-- all other steps of others, of every kind, are free on either computer.
pub leaves : {m z : Machine} (t : Step m z) (c f i : ℕ) → Allowed m.spaces c f reading → (StoresTo t f → ⊥) →
    z.spaces.word f i ≡ m.spaces.word f i
leaves {m} (moves s a) c f i w n = elim (page_words a f i (untabled_so w)) [ inl e ↦ e | inr e ↦ absurd (n e) ]
  where
    untabled_so : Allowed m.spaces c f reading → untabled (m.spaces.kind f) ≡ true
    untabled_so (inl e) = ap untabled e
    untabled_so (inr (inl e)) = ap untabled e.1
    untabled_so (inr (inr e)) = ap untabled e.0
leaves (reports d R D r) c f i w n = refl
leaves (looks k l) c f i w n = refl
leaves {m} (stores d a o b l u) c f i w n = upd2_other m.spaces.word a (o / 8) _ f i (λ e x. n e)

-- Two frames that hold the same may be paired, if they are not: pages that were just handed out to c's guest (all zero), or pages that
-- are lent to c.
pub paired_too : {c : ℕ} {R : Frames} {m n y z : Machine} → Start m → Start n → Two c no_frames m n R y z → (f f' : ℕ) → Unpaired R f f' →
    SameWords y z f f' →
    Two c no_frames m n (λ a a'. R a a' ⊎ ((a ≡ f) × (a' ≡ f'))) y z
paired_too {c} {R} {m} {n} {y} {z} u w t f f' un same = let p = run_paired t (start_paired c u w) in append t (repairs (record {
  one_right = one_right p.one_right;
  one_left = one_left p.one_left;
  new = λ a a' x. elim x [ inl k ↦ inl k | inr k ↦ inr (λ i. rw k.0 (rw k.1 (same i))) ];
  stays = λ a a' x l l'. inl x;
}) ends)
  where
    one_right : ((a b b' : ℕ) → R a b → R a b' → b ≡ b') → (a b b' : ℕ) → (R a b ⊎ ((a ≡ f) × (b ≡ f'))) →
        (R a b' ⊎ ((a ≡ f) × (b' ≡ f'))) → b ≡ b'
    one_right e a b b' (inl x) (inl k) = e a b b' x k
    one_right e a b b' (inl x) (inr k) = absurd (un.0 b (rw k.0 at x))
    one_right e a b b' (inr x) (inl k) = absurd (un.0 b' (rw x.0 at k))
    one_right e a b b' (inr x) (inr k) = x.1 ∙ sym k.1

    one_left : ((a a' b : ℕ) → R a b → R a' b → a ≡ a') → (a a' b : ℕ) → (R a b ⊎ ((a ≡ f) × (b ≡ f'))) →
        (R a' b ⊎ ((a' ≡ f) × (b ≡ f'))) → a ≡ a'
    one_left e a a' b (inl x) (inl k) = e a a' b x k
    one_left e a a' b (inl x) (inr k) = absurd (un.1 a (rw k.1 at x))
    one_left e a a' b (inr x) (inl k) = absurd (un.1 a' (rw x.1 at k))
    one_left e a a' b (inr x) (inr k) = x.0 ∙ sym k.0

-- And a frame that c may not read need not be paired, from any moment on; then anybody may store to it.
pub unpaired : {c : ℕ} {R : Frames} {m n y z : Machine} → Start m → Start n → Two c no_frames m n R y z → (f : ℕ) →
    (Allowed y.spaces c f reading → ⊥) → Two c no_frames m n (λ a a'. R a a' × (a ≡ f → ⊥)) y z
unpaired {c} {R} {m} {n} {y} {z} u w t f never = let p = run_paired t (start_paired c u w) in append t (repairs (record {
  one_right = λ a b b' x x'. p.one_right a b b' x.0 x'.0;
  one_left = λ a a' b x x'. p.one_left a a' b x.0 x'.0;
  new = λ a a' x. inl x.0;
  stays = λ a a' x l l'. (x, λ e. never (rw e at l));
}) ends)
