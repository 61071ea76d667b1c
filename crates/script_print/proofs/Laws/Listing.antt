-- A list of guests, guest by guest.
use Prim.Native.Nat.{ℕ, suc, ◌+◌, ◌*◌, ◌/◌, ◌≤◌, ◌<◌}
use mathlib.Core.Path.{◌≡◌, refl, sym, ap, subst, ◌∙◌}
use mathlib.Core.List.{List}
use mathlib.Core.Logic.{inl, inr}
use native.Mathlib.Numerals.{add-one}
use native.Mathlib.Omega.{arith}
use lib.Dec.{eqb}
use lib.ListN.{length}
use borrow.Author.Tests.{le-leb, lt-leb, eq-eqb, ne_eqb}
use Rattle.model.proofs.Laws.Base.{eq?}
use Rattle.script_text.specs.Digits.{decimal_of, numeral_of, digits, without_zeros, digit_character}
use Rattle.script_text.specs.Wrote.{Wrote}
use Rattle.script_text.proofs.Laws.Printing.{wrote_then, wrote_within}
use Rattle.script_print.specs.Frame.{listed_guest_bytes, listed_guest_text, guest_list_to}

-- a number below ten has one digit
pub one_digit : (g : ℕ) → g < 10 → length (decimal_of g) ≡ 1
unfolding decimal_of numeral_of digits without_zeros digit_character
one_digit g h = let z : g / 10 ≡ 0 = omega arith in rw z refl

-- what stands at `at` is empty where nothing was put
first_here : (at n next : ℕ) → next ≡ at + n → eqb next at ≡ eqb n 0
first_here at n next e = elim (eq? n 0) [
  | inl z ↦ eq-eqb next at (omega arith) ∙ sym (eq-eqb n 0 z)
  | inr z ↦ ne_eqb next at (λ q. z (omega arith)) ∙ sym (ne_eqb n 0 z)
]

-- Before the turn of guest g the guests 1 to k = g - 1 are told.
module _ (least : ℕ) (shares : ℕ → ℕ) {m l : List ℕ} {at next : ℕ} (k g : ℕ) (one : k + 1 ≡ g)
    (w : Wrote (listed_guest_bytes * k) m at l next (guest_list_to least shares k)) where
  pub list_passed : {x : ℕ} → x ≡ shares g → x < least → Wrote (listed_guest_bytes * g) m at l next (guest_list_to least shares g)
  unfolding guest_list_to
  list_passed e h =
      let less : shares (suc k) < least = subst (λ (n : ℕ). n < least) (e ∙ ap shares (sym one ∙ add-one k)) h in
      wrote_within w (omega arith) (rw (sym one, add-one k, lt-leb least (shares (suc k)) less))

  pub list_more : {x : ℕ} {o : List ℕ} {r : ℕ} → x ≡ shares g → least ≤ x
      → Wrote listed_guest_bytes l next o r (listed_guest_text (eqb next at) g)
      → Wrote (listed_guest_bytes * g) m at o r (guest_list_to least shares g)
  unfolding guest_list_to
  list_more e h v =
      let enough : least ≤ shares (suc k) = subst (λ (n : ℕ). least ≤ n) (e ∙ ap shares (sym one ∙ add-one k)) h in
      wrote_within (wrote_then w v) (omega arith)
      (rw (sym one, add-one k, le-leb least (shares (suc k)) enough, first_here at _ next w.next))
