-- Each step of the two slices is a run of moves; and what the operations, and their paths, count on holds again after it (Fit).
use mathlib.Core.Path.{◌≡◌, refl, sym, ap, ◌∙◌, subst}
use mathlib.Core.Bool.{true, true≢false}
use mathlib.Core.Logic.{inl, inr}
use mathlib.Core.List.{List}
use Prim.Native.Nat.{ℕ, ◌+◌, ◌*◌, ◌<◌, ◌/◌, ◌%◌}
use native.Mathlib.Omega.{arith}
use lib.ListN.{length, length-set, set}
use Rattle.memory.specs.Word.{stored_at}
use Rattle.memory.proofs.Laws.Words.{length_kept}
use Rattle.model.specs.Base.{upd2}
use Rattle.model.proofs.Laws.Base.{bool?, upd2_other}
use Rattle.model.specs.State.{State, tabled, put_byte, reworded}
use Rattle.model.specs.Operations.{Out, refuse, done}
use Rattle.model.specs.Cache.{writing}
use Rattle.model.specs.Machine as M
use Rattle.model.proofs.Invariant.Answer.{then_is}
use Rattle.model_moves.specs.Spaces.{Spaces, store}
use Rattle.model_moves.specs.Cache.{Caches}
use Rattle.model_moves.specs.Moves.{untabled, put}
use Rattle.model_moves.specs.Machine.{Machine, moves, looks, stores}
use Rattle.model_moves.specs.Machine as G
use Rattle.model_moves.proofs.Laws.Paths.{watched_run}
use Rattle.model_moves.proofs.Invariant.Holds.{Good, run_good, store_frame, belongs_untabled}
use Rattle.model_paths.specs.View.{view}
use Rattle.model_paths.specs.Goes.{Ended, Ready}
use Rattle.model_paths.proofs.Ended.{answer_ended}
use Rattle.model_paths.proofs.Laws.View.{words_low}
use Rattle.model_paths.proofs.Stored.{word_view, tabled_so, untabled_so}
use Rattle.ledger.specs.Layout.{first_of, kind_of, word_of, state_in, state_of, pick_of}
use Rattle.ledger.specs.Sound.{Sound}
use Rattle.ledger.proofs.Laws.Sound.{chosen, within}
use Rattle.ledger.proofs.Laws.Words.{word_stored}
use Rattle.ledger.proofs.Laws.Beside.{sound_beside}
use Rattle.monitor.specs.Answers.{Outcome}
use Rattle.isolation_runs.specs.Calls.{Call, defined, in_model}
use Rattle.isolation_runs.specs.Slices.{Slices, spaces, machine, Reaches, Called, Byte, Word, Beside, Step, called, stored, loaded_byte, loaded_word, looked}
use Rattle.isolation_runs.proofs.Laws.Calls.{defined_is, chooses}
use Rattle.isolation_runs.proofs.Laws.StoredByte.{state_put}

-- what every operation requires, and what its path needs; and what was kept leads only where it may
pub record Fit (x : Slices) : Type 0 where
  pub sound : Sound x.ram x.ledger
  pub ended : Ended (state_of x.ram x.ledger)
  pub good : Good (machine x)

pub fit_ready : {x : Slices} → Fit x → Ready (state_of x.ram x.ledger)
fit_ready h = record { ledger = h.sound.core; ended = h.ended; spaces = h.good.core }

abbrev of_both : Spaces → Caches → Machine
of_both s k = record { spaces = s; caches = k }

-- word i of frame f becomes v, and nothing else changes
pub record Put (f i v : ℕ) (x y : Slices) : Type 1 where
  pub low : i < 512
  pub state : state_of y.ram y.ledger ≡ reworded (state_of x.ram x.ledger) (upd2 (word_of x.ram) f i v)
  pub ledger : y.ledger ≡ x.ledger
  pub long : length y.ram ≡ length x.ram
  pub caches : y.caches ≡ x.caches

-- the word that byte o of frame f is in, with another byte
abbrev pub word_with : Slices → (f o b : ℕ) → ℕ
word_with x f o b = put_byte (o % 8) (word_of x.ram f (o / 8)) b

module _ (x y : Slices) (ok : Sound x.ram x.ledger) where
  pub byte_put : {f o b : ℕ} → Byte f o b x y → Put f (o / 8) (word_with x f o b) x y
  unfolding state_in M.stored
  byte_put {f} {o} {b} a = record {
    low = let z = a.in_frame in omega arith;
    state =
        ap (λ (m : List ℕ). state_of m y.ledger) a.ram_after
        ∙ ap (λ (l : List ℕ). state_of (set x.ram (f * 4096 + o) b) l) a.ledger_after
        ∙ state_put x.ram x.bytes b f o (within x.ram x.ledger ok f a.in_ram) a.in_frame x.ledger;
    ledger = a.ledger_after;
    long = ap (λ (m : List ℕ). length m) a.ram_after ∙ length-set x.ram (f * 4096 + o) b;
    caches = a.caches_after;
  }

  pub word_put : {f i v : ℕ} → Word f i v x y → Put f i v x y
  unfolding state_in
  word_put {f} {i} {v} a = record {
    low = a.in_frame;
    state =
        ap (λ (m : List ℕ). state_of m y.ledger) a.ram_after
        ∙ ap (λ (l : List ℕ). state_of (stored_at x.ram (f * 4096 + i * 8) v) l) a.ledger_after
        ∙ words (word_stored x.ram f (within x.ram x.ledger ok f a.in_ram) i v a.in_frame a.is_word);
    ledger = a.ledger_after;
    long = ap (λ (m : List ℕ). length m) a.ram_after ∙ length_kept x.ram (f * 4096 + i * 8) v;
    caches = a.caches_after;
  }
    where
      words : word_of (stored_at x.ram (f * 4096 + i * 8) v) ≡ upd2 (word_of x.ram) f i v →
          state_of (stored_at x.ram (f * 4096 + i * 8) v) x.ledger ≡
          reworded (state_of x.ram x.ledger) (upd2 (word_of x.ram) f i v)
      words e = unfold state_in in rw e

  -- a guest's store is not to a table
  pub beside : (f : ℕ) → untabled ((spaces x).kind f) ≡ true → Beside x f
  unfolding state_in
  beside f u = elim (bool? (tabled (kind_of x.ledger f))) [
    | inl e ↦ absurd (true≢false (sym u ∙ tabled_so (kind_of x.ledger f) e))
    | inr e ↦ e
  ]

  untabled_at : (f : ℕ) → Beside x f → untabled ((spaces x).kind f) ≡ true
  unfolding state_in
  untabled_at f b = untabled_so (kind_of x.ledger f) b

  put_machine : {f i v : ℕ} → Put f i v x y → of_both (store (spaces x) f i v) x.caches ≡ machine y
  unfolding state_in
  put_machine {f} {i} {v} p =
      ap (λ (s : Spaces). of_both s x.caches) (word_view (state_of x.ram x.ledger) f i v p.low)
      ∙ ap (λ (t : State). of_both (view t) x.caches) (sym p.state) ∙ ap (of_both (spaces y)) (sym p.caches)

  pub put_run : {f i v : ℕ} → Put f i v x y → Beside x f → G.Run (machine x) (machine y)
  put_run {f} {i} {v} p b =
      G.then (moves (store (spaces x) f i v) (put f i v (untabled_at f b)))
      (subst (λ (z : Machine). G.Run z (machine y)) (sym (put_machine p)) G.stop)

  pub stored_run : (g : ℕ) {f o b : ℕ} → Byte f o b x y → Reaches x g writing ((first_of x.ledger + f) * 4096 + o) →
      G.Run (machine x) (machine y)
  unfolding state_in
  stored_run g {f} {o} {b} a r = G.then (stores g f o b a.in_frame r) (subst (λ (z : Machine). G.Run z (machine y)) (sym there) G.stop)
    where
      there : of_both (G.byte_stored (spaces x) f o b) x.caches ≡ machine y
      there =
          ap (λ (n : ℕ). of_both (store (spaces x) f (o / 8) (put_byte (o % 8) n b)) x.caches)
          (words_low (word_of x.ram) f (o / 8) (let z = a.in_frame in omega arith))
          ∙ put_machine (byte_put a)

  pub put_sound : {f i v : ℕ} → Put f i v x y → Beside x f → Sound y.ram y.ledger
  put_sound {f} {i} {v} p b =
      subst (λ (l : List ℕ). Sound y.ram l) (sym p.ledger) (sound_beside x.ram x.ledger ok y.ram p.long same)
    where
      same : (t : ℕ) → tabled (kind_of x.ledger t) ≡ true → (n : ℕ) → word_of y.ram t n ≡ word_of x.ram t n
      same t e n = words ∙ upd2_other (word_of x.ram) f i v t n
          (λ (q : t ≡ f) _. true≢false (sym e ∙ ap (λ (a : ℕ). tabled (kind_of x.ledger a)) q ∙ b))
        where
          words : word_of y.ram t n ≡ upd2 (word_of x.ram) f i v t n
          words = unfold state_in in ap (λ (s : State). s.word t n) p.state

ended_same : (x y : Slices) → y.ledger ≡ x.ledger → Ended (state_of x.ram x.ledger) → Ended (state_of y.ram y.ledger)
ended_same x y e n = subst (λ (l : List ℕ). Ended (state_of y.ram l)) (sym e) (record { gone = unfold state_in in n.gone })

-- the code takes free frames as the model asks
pub chosen_so : (x : Slices) → Sound x.ram x.ledger → (c : Call) →
    M.Chooses (state_of x.ram x.ledger) (in_model c (pick_of x.ledger))
chosen_so x ok c = chooses c (state_of x.ram x.ledger) (pick_of x.ledger) (chosen x.ledger ok.ledger_sound x.ram)

called_ended : {x y : Slices} → Fit x → (c : Call) (r : ℕ) → Called c r x y → Ended (state_of y.ram y.ledger)
called_ended {x} {y} h c r a = go (defined c (state_of x.ram x.ledger) (pick_of x.ledger)) refl a.answers.outcome
  where
    s : State
    s = state_of x.ram x.ledger

    go : (u : Out) → defined c (state_of x.ram x.ledger) (pick_of x.ledger) ≡ u →
        Outcome u x.ram x.ledger r y.ram y.ledger →
        Ended (state_of y.ram y.ledger)
    go (refuse n) e o = ended_same x y o.2 h.ended
    go (done s') e o = subst Ended (sym o.1) (then_is (M.answer (state_of x.ram x.ledger) (in_model c (pick_of x.ledger))) s'
        (answer_ended (state_of x.ram x.ledger) h.sound.core h.ended (in_model c (pick_of x.ledger))
        (chosen_so x h.sound c))
        (sym (defined_is c (state_of x.ram x.ledger) (pick_of x.ledger)) ∙ e))

same_machine : (x y : Slices) → y.ram ≡ x.ram → y.ledger ≡ x.ledger → of_both (spaces x) y.caches ≡ machine y
same_machine x y e l = ap (λ (m : List ℕ). of_both (view (state_of m x.ledger)) y.caches) (sym e)
    ∙ ap (λ (n : List ℕ). of_both (view (state_of y.ram n)) y.caches) (sym l)

pub step_run : {x y : Slices} → Fit x → Step x y → G.Run (machine x) (machine y)
step_run h (called c r a) = watched_run a.watched
step_run {x} {y} h (stored g f o b a r) = stored_run x y h.sound g a r
step_run {x} {y} h (loaded_byte f o b a s) = put_run x y h.sound (byte_put x y h.sound a) s
step_run {x} {y} h (loaded_word f i v a s) = put_run x y h.sound (word_put x y h.sound a) s
step_run {x} {y} h (looked a) =
    G.then (looks y.caches a.looks) (subst (λ (z : Machine). G.Run z (machine y))
    (sym (same_machine x y a.ram_after a.ledger_after)) G.stop)

-- where a guest stores there is no table
store_beside : {x y : Slices} → Fit x → (g f o b : ℕ) → Byte f o b x y → Reaches x g writing ((first_of x.ledger + f) * 4096 + o) →
    Beside x f
unfolding state_in
store_beside {x} {y} h g f o b a r =
    let w = store_frame (machine x) h.good g f o a.in_frame r in
    beside x y h.sound f (belongs_untabled (spaces x) g f w.0 w.1)

pub step_fits : {x y : Slices} → Fit x → Step x y → Fit y
step_fits {x} {y} h s = record { sound = sound s; ended = ended s; good = run_good (step_run h s) h.good }
  where
    sound : Step x y → Sound y.ram y.ledger
    sound (called c r a) = a.answers.sound
    sound (stored g f o b a r) = put_sound x y h.sound (byte_put x y h.sound a) (store_beside h g f o b a r)
    sound (loaded_byte f o b a s) = put_sound x y h.sound (byte_put x y h.sound a) s
    sound (loaded_word f i v a s) = put_sound x y h.sound (word_put x y h.sound a) s
    sound (looked a) =
        subst (λ (m : List ℕ). Sound m y.ledger) (sym a.ram_after)
        (subst (λ (l : List ℕ). Sound x.ram l) (sym a.ledger_after) h.sound)

    ended : Step x y → Ended (state_of y.ram y.ledger)
    ended (called c r a) = called_ended h c r a
    ended (stored g f o b a r) = ended_same x y a.ledger_after h.ended
    ended (loaded_byte f o b a s) = ended_same x y a.ledger_after h.ended
    ended (loaded_word f i v a s) = ended_same x y a.ledger_after h.ended
    ended (looked a) = ended_same x y a.ledger_after h.ended
