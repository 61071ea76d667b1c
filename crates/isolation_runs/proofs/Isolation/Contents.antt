-- Bytes of RAM: a call changes none of a page that stays with its guest, and a step changes one of a page only as a store to it.
use mathlib.Core.Path.{◌≡◌, refl, sym, ap, ◌∙◌, subst}
use mathlib.Core.Bool.{false}
use mathlib.Core.Logic.{◌⊎◌, inl, inr}
use mathlib.Core.List.{List}
use Prim.Native.Nat.{ℕ, ◌+◌, ◌*◌, ◌<◌, ◌/◌, ◌%◌}
use native.Mathlib.Omega.{arith}
use lib.Dec.{eqb}
use lib.ListN.{get_or}
use Rattle.memory.specs.Word.{word_at}
use Rattle.model.proofs.Laws.Base.{eq?, upd2_other}
use Rattle.model.specs.State.{State, KindOfFrame, page, byte, byte_of, kind_number}
use Rattle.model.specs.Operations.{Out, refuse, done}
use Rattle.model.specs.Bytes.{Image}
use Rattle.model.specs.Cache.{writing}
use Rattle.model.specs.Machine as M
use Rattle.model.proofs.Invariant.Answer.{then_is}
use Rattle.model.proofs.Invariant.Image.{byte_there}
use Rattle.model.proofs.Invariant.Orderly.{Orderly, orderly}
use Rattle.model_moves.proofs.Invariant.Holds.{store_frame}
use Rattle.model_moves.proofs.Invariant.Allowed.{belongs_allowed}
use Rattle.ledger.specs.Layout.{size_of, first_of, kind_of, word_of, state_in, state_of, pick_of}
use Rattle.ledger.proofs.Laws.Words.{word_is}
use Rattle.ledger.specs.Sound.{Sound}
use Rattle.monitor.specs.Answers.{Outcome}
use Rattle.isolation_runs.specs.Calls.{Call, defined, in_model}
use Rattle.isolation_runs.specs.Slices.{Slices, spaces, machine, Called, Step, called, stored, loaded_byte, loaded_word, looked}
use Rattle.isolation_runs.specs.Terms.{Written}
use Rattle.isolation_runs.proofs.Laws.Calls.{defined_is}
use Rattle.isolation_runs.proofs.Laws.Steps.{Fit, chosen_so, Put, byte_put, word_put, step_fits}
use Rattle.isolation_runs.proofs.Isolation.Words.{allowed_so}

-- byte o of frame f in the state is the byte of RAM there
pub byte_is : (x : Slices) → Sound x.ram x.ledger → (f o : ℕ) → f < size_of x.ledger → o < 4096 →
    byte (state_of x.ram x.ledger) f o ≡ get_or x.ram (f * 4096 + o) 0
unfolding state_in
byte_is x ok f o low inside = byte_there image x.bytes f o low inside ∙ ap (λ (i : ℕ). get_or x.ram i 0) (omega arith)
  where
    image : Image (state_of x.ram x.ledger) (4096 * first_of x.ledger) x.ram
    image = record {
      base = refl;
      long = let a = ok.ram_fits in omega arith;
      words = λ f i _ k. sym (word_is x.ram f i k) ∙ ap (word_at x.ram) (omega arith);
    }

bytes_same : (s s' : State) (f o : ℕ) → ((i : ℕ) → s'.word f i ≡ s.word f i) → byte s' f o ≡ byte s f o
unfolding byte
bytes_same s s' f o e = ap (byte_of (o % 8)) (e (o / 8))

module _ (x y : Slices) (h : Fit x) (c : Call) (r : ℕ) (a : Called c r x y) where
  -- what the operation did to frames and their words, where it was done
  pub did : (s : State) → defined c (state_of x.ram x.ledger) (pick_of x.ledger) ≡ done s →
      Orderly (state_of x.ram x.ledger) s
  did s e = then_is (M.answer (state_of x.ram x.ledger) (in_model c (pick_of x.ledger))) s
      (orderly (state_of x.ram x.ledger) h.sound.core (in_model c (pick_of x.ledger)) (chosen_so x h.sound c))
      (sym (defined_is c (state_of x.ram x.ledger) (pick_of x.ledger)) ∙ e)

  -- refused, or done
  pub either : ((y.ram ≡ x.ram) × (y.ledger ≡ x.ledger)) ⊎ Orderly (state_of x.ram x.ledger) (state_of y.ram y.ledger)
  either = go (defined c (state_of x.ram x.ledger) (pick_of x.ledger)) refl a.answers.outcome
    where
      go : (u : Out) → defined c (state_of x.ram x.ledger) (pick_of x.ledger) ≡ u →
          Outcome u x.ram x.ledger r y.ram y.ledger →
          ((y.ram ≡ x.ram) × (y.ledger ≡ x.ledger)) ⊎ Orderly (state_of x.ram x.ledger) (state_of y.ram y.ledger)
      go (refuse n) e o = inl (o.1, o.2)
      go (done s) e o = inr (subst (λ (t : State). Orderly (state_of x.ram x.ledger) t) (sym o.1) (did s e))

  -- neither a free frame nor a table in use
  pub stays : (f : ℕ) (k : KindOfFrame) → kind_of x.ledger f ≡ k → eqb 1 (kind_number k) ≡ false → eqb 2 (kind_number k) ≡ false →
      f < size_of x.ledger → (o : ℕ) → o < 4096 → get_or y.ram (f * 4096 + o) 0 ≡ get_or x.ram (f * 4096 + o) 0
  unfolding state_in
  stays f k is p q low o inside = elim either [
    | inl e ↦ ap (λ (m : List ℕ). get_or m (f * 4096 + o) 0) e.0
    | inr d ↦
        sym (byte_is y a.answers.sound f o (let z = d.size in omega arith) inside) ∙ same d ∙ byte_is x h.sound f o low inside
  ]
    where
      same : Orderly (state_of x.ram x.ledger) (state_of y.ram y.ledger) →
          byte (state_of y.ram y.ledger) f o ≡ byte (state_of x.ram x.ledger) f o
      same d = bytes_same (state_of x.ram x.ledger) (state_of y.ram y.ledger) f o (d.words f k is p q)

-- another frame than the one that is stored to
module _ (x y : Slices) (h : Fit x) (ok : Sound y.ram y.ledger) (f o : ℕ) (low : f < size_of x.ledger) (inside : o < 4096) where
  elsewhere : {f' i v : ℕ} → Put f' i v x y → (f ≡ f' → ⊥) → get_or y.ram (f * 4096 + o) 0 ≡ get_or x.ram (f * 4096 + o) 0
  unfolding state_in
  elsewhere {f'} {i} {v} p ne =
      sym (byte_is y ok f o (subst (λ (l : List ℕ). f < size_of l) (sym p.ledger) low) inside)
      ∙ bytes_same (state_of x.ram x.ledger) (state_of y.ram y.ledger) f o
      (λ n. ap (λ (s : State). s.word f n) p.state ∙ upd2_other (word_of x.ram) f' i v f n (λ e _. ne e))
      ∙ byte_is x h.sound f o low inside

  stored_there : {f' i v : ℕ} → Put f' i v x y → (get_or y.ram (f * 4096 + o) 0 ≡ get_or x.ram (f * 4096 + o) 0) ⊎ (f' ≡ f)
  stored_there {f'} p = elim (eq? f f') [ inl e ↦ inr (sym e) | inr e ↦ inl (elsewhere p e) ]

pub written_so : (x y : Slices) → Fit x → (s : Step x y) (f p : ℕ) → kind_of x.ledger f ≡ page p → f < size_of x.ledger →
    (o : ℕ) → o < 4096 → (get_or y.ram (f * 4096 + o) 0 ≡ get_or x.ram (f * 4096 + o) 0) ⊎ Written s f
unfolding state_in
written_so x y h (called c r a) f p k low o inside = inl (stays x y h c r a f (page p) k refl refl low o inside)
written_so x y h (stored g f' o' b a r) f p k low o inside =
    elim (stored_there x y h (step_fits h (stored g f' o' b a r)).sound f o low inside (byte_put x y h.sound a)) [
      | inl e ↦ inl e
      | inr e ↦
          let w = store_frame (machine x) h.good g f' o' a.in_frame r in
          inr (e, allowed_so x g f writing (belongs_allowed (spaces x) g f w.0 writing w.2 (rw (← e) w.1)))
    ]
written_so x y h (loaded_byte f' o' b a s) f p k low o inside =
    stored_there x y h (step_fits h (loaded_byte f' o' b a s)).sound f o low inside (byte_put x y h.sound a)
written_so x y h (loaded_word f' i v a s) f p k low o inside =
    stored_there x y h (step_fits h (loaded_word f' i v a s)).sound f o low inside (word_put x y h.sound a)
written_so x y h (looked a) f p k low o inside = inl (ap (λ (m : List ℕ). get_or m (f * 4096 + o) 0) a.ram_after)
