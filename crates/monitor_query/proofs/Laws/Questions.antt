-- Laws of specs/Questions.
use mathlib.Core.Path.{◌≡◌, refl, sym, ap, ◌∙◌}
use mathlib.Core.Bool.{true}
use mathlib.Core.List.{List}
use Prim.Native.Nat.{ℕ, ◌+◌, ◌*◌, ◌<◌, ◌≤◌, ◌^◌}
use native.Mathlib.Omega.{arith}
use Rattle.memory.specs.Ram.{fewest_frames, most_frames}
use Rattle.memory.specs.Word.{word_at}
use Rattle.model.specs.State.{table, page_count}
use Rattle.model.specs.Cache.{Access}
use Rattle.model.specs.Bytes.{Image, access, answers}
use Rattle.model.proofs.Invariant.Core.{in_room}
use Rattle.model.proofs.Invariant.Bridge.{answer_says}
use Rattle.ledger.specs.Layout.{size_of, first_of, root_of, exists_of, state_in, state_of}
use Rattle.ledger.proofs.Laws.Words.{word_is}
use Rattle.ledger.specs.Sound.{Sound}
use Rattle.monitor_query.specs.Questions.{translated}

module _ (m l : List ℕ) (ok : Sound m l) where
  pub root_room : (g : ℕ) → exists_of l g ≡ true → first_of l + root_of l g < page_count
  unfolding state_in
  root_room g e = in_room (state_of m l) ok.core (root_of l g) (table g 3 0) (ok.core.roots g e) refl

  pub first_room : first_of l + size_of l ≤ page_count
  unfolding state_in
  first_room = ok.core.room

  image : Image (state_of m l) (4096 * first_of l) m
  unfolding state_in
  image = record {
    base = refl;
    long = let a = ok.ram_fits in omega arith;
    words = λ f i a b. sym (word_is m f i b) ∙ ap (word_at m) (omega arith);
  }

  -- what the host is told is what the state says, of every n that set-up admits
  pub translation_says : (g a : ℕ) (w : Access) → fewest_frames ≤ size_of l → size_of l ≤ most_frames → exists_of l g ≡ true → a < 2 ^ 48 →
      translated m l g a (access w) ≡ answers (state_of m l) (4096 * first_of l) g a w
  unfolding translated state_in
  translation_says g a w least most e low =
      let root : 4096 * first_of l + 4096 * root_of l g ≡ 4096 * (first_of l + root_of l g) = omega arith in
      rw (e, sym root) (answer_says (state_of m l) ok.core (4096 * first_of l) m image g a w least most e low)
