-- What becomes of the sparse set when a frame leaves or joins it: it changes places with the last one inside or the first one outside.
use mathlib.Core.Path.{◌≡◌, refl, sym, ap, ◌∙◌}
use mathlib.Core.Logic.{◌⊎◌, inl, inr}
use Prim.Native.Nat.{ℕ, ◌+◌, ◌-◌, ◌≤◌, ◌<◌}
use native.Mathlib.Omega.{arith}
use lib.Dec.{eqb, ltb}
use borrow.Author.Tests.{lt-ltb, le-ltb, eq-eqb, ne_eqb, ltb-true, ltb-false}
use Rattle.model.proofs.Laws.Base.{eq?, lt?}
use Rattle.model.specs.Base.{upd}
use Rattle.model.proofs.Laws.Base.{upd_at, upd_other}
use Rattle.model.specs.State.{FREE}
use Rattle.ledger.specs.FreeSet.{FreeSet}

-- D when frame f and the one at place q have changed places; P then is the same with the two exchanged
abbrev pub swapped : (D P : ℕ → ℕ) (f q : ℕ) → ℕ → ℕ
swapped D P f q = upd (upd D (P f) (D q)) q f

module _ (D P : ℕ → ℕ) (f q : ℕ) where
  here : swapped D P f q q ≡ f
  here = upd_at (upd D (P f) (D q)) q f q refl

  there : (P f ≡ q → ⊥) → swapped D P f q (P f) ≡ D q
  there ne = upd_other (upd D (P f) (D q)) q f (P f) ne ∙ upd_at D (P f) (D q) (P f) refl

  elsewhere : (i : ℕ) → (i ≡ q → ⊥) → (i ≡ P f → ⊥) → swapped D P f q i ≡ D i
  elsewhere i a b = upd_other (upd D (P f) (D q)) q f i a ∙ upd_other D (P f) (D q) i b

  still_low : (n : ℕ) → ((i : ℕ) → i < n → D i < n) → f < n → q < n → (i : ℕ) → i < n → swapped D P f q i < n
  still_low n low hf hq i l = elim (eq? i q) [
    | inl a ↦ rw (upd_at (upd D (P f) (D q)) q f i a) hf
    | inr a ↦ rw (upd_other (upd D (P f) (D q)) q f i a) (elim (eq? i (P f)) [
      | inl b ↦ rw (upd_at D (P f) (D q) i b) (low q hq)
      | inr b ↦ rw (upd_other D (P f) (D q) i b) (low i l)
    ])
  ]

-- they are still each other's inverse
still_inverse : (n : ℕ) (D P : ℕ → ℕ) (f q : ℕ) → ((i : ℕ) → i < n → P (D i) ≡ i) → q < n → (i : ℕ) → i < n →
    swapped P D q f (swapped D P f q i) ≡ i
still_inverse n D P f q p_d hq i l = elim (eq? i q) [
  | inl a ↦ ap back a ∙ ap (swapped P D q f) (here D P f q) ∙ here P D q f ∙ sym a
  | inr a ↦ elim (eq? i (P f)) [
    | inl b ↦ ap back b ∙ ap (swapped P D q f) (there D P f q (λ x. a (b ∙ x))) ∙ there P D q f (λ x. a (b ∙ ap P (sym x) ∙ p_d q hq))
        ∙ sym b
    | inr b ↦ ap (swapped P D q f) (elsewhere D P f q i a b)
        ∙ elsewhere P D q f (D i) (λ x. b (sym (p_d i l) ∙ ap P x)) (λ x. a (sym (p_d i l) ∙ ap P x ∙ p_d q hq)) ∙ p_d i l
  ]
]
  where
    back : ℕ → ℕ
    back x = swapped P D q f (swapped D P f q x)

module _ (n : ℕ) (K D P : ℕ → ℕ) (count f q : ℕ) (s : FreeSet n K D P count) (hf : f < n) (low_q : q < n) where
  -- the set after it, whose bound has moved past place q and no other
  pub exchanged : (v count' : ℕ) → count' ≤ n → eqb v FREE ≡ ltb q count' →
      ((x : ℕ) → x < n → (x ≡ q → ⊥) → ltb x count' ≡ ltb x count) → ltb (P f) count' ≡ ltb q count ⊎ (P f ≡ q) →
      FreeSet n (upd K f v) (swapped D P f q) (swapped P D q f) count'
  exchanged v count' few inside outside other = record {
    few = few;
    d_low = still_low D P f q n s.d_low hf low_q;
    p_low = still_low P D q f n s.p_low low_q hf;
    p_d = still_inverse n D P f q s.p_d low_q;
    d_p = still_inverse n P D q f s.d_p hf;
    in_set = member;
  }
    where
      changed : (x : ℕ) → x ≡ D q → (x ≡ f → ⊥) → (ltb (P f) count' ≡ ltb q count) ⊎ (P f ≡ q) → ltb (P f) count' ≡ ltb q count
      changed x b a (inl h) = h
      changed x b a (inr h) = absurd (a (b ∙ ap D (sym h) ∙ s.d_p f hf))

      member : (x : ℕ) → x < n → eqb (upd K f v x) FREE ≡ ltb (swapped P D q f x) count'
      member x l = elim (eq? x f) [
        | inl a ↦ rw (upd_at K f v x a, a, here P D q f) inside
        | inr a ↦ rw (upd_other K f v x a) (elim (eq? x (D q)) [
          | inl b ↦ s.in_set x l ∙ ap (λ (y : ℕ). ltb y count) (ap P b ∙ s.p_d q low_q) ∙ sym (changed x b a other)
              ∙ ap (λ (y : ℕ). ltb y count') (sym (ap (swapped P D q f) b ∙ there P D q f (λ y. a (b ∙ y))))
          | inr b ↦ s.in_set x l ∙ sym (outside (P x) (s.p_low x l) (λ y. b (sym (s.d_p x l) ∙ ap D y)))
              ∙ ap (λ (y : ℕ). ltb y count') (sym (elsewhere P D q f x a b))
        ])
      ]

-- a free frame f becomes v, which is not free
module _ (n : ℕ) (K D P : ℕ → ℕ) (count f v : ℕ) (s : FreeSet n K D P count) (hf : f < n) (was : K f ≡ FREE) where
  pub inside : P f < count
  inside = ltb-true (P f) count (sym (s.in_set f hf) ∙ eq-eqb (K f) FREE was)

  pub last_low : count - 1 < n
  last_low = let a = s.few in let b = inside in omega arith

  pub left_set : (v ≡ FREE → ⊥) → FreeSet n (upd K f v) (swapped D P f (count - 1)) (swapped P D (count - 1) f) (count - 1)
  left_set now =
      let i = inside in
      let few = s.few in
      let less : count - 1 ≤ n = omega arith in
      let none : count - 1 ≤ count - 1 = omega arith in
      exchanged n K D P count f (count - 1) s hf last_low v (count - 1) less
      (ne_eqb v FREE now ∙ sym (le-ltb (count - 1) (count - 1) none)) there other
    where
      there : (x : ℕ) → x < n → (x ≡ count - 1 → ⊥) → ltb x (count - 1) ≡ ltb x count
      there x l ne = elim (lt? x (count - 1)) [
        | inl a ↦ lt-ltb x (count - 1) a ∙ sym (lt-ltb x count (omega arith))
        | inr a ↦ le-ltb x (count - 1) a ∙ sym (le-ltb x count (past x count a ne))
      ]
        where
          past : (x count : ℕ) → count - 1 ≤ x → (x ≡ count - 1 → ⊥) → count ≤ x
          past x count a ne = elim (lt? x count) [ inl b ↦ absurd (ne (omega arith)) | inr b ↦ b ]

      other : (ltb (P f) (count - 1) ≡ ltb (count - 1) count) ⊎ (P f ≡ count - 1)
      other =
          let i = inside in
          elim (eq? (P f) (count - 1)) [
            | inl e ↦ inr e
            | inr e ↦ inl (lt-ltb (P f) (count - 1) (below (P f) count i e) ∙ sym (lt-ltb (count - 1) count (omega arith)))
          ]
        where
          below : (x count : ℕ) → x < count → (x ≡ count - 1 → ⊥) → x < count - 1
          below x count a ne = elim (lt? x (count - 1)) [ inl b ↦ b | inr b ↦ absurd (ne (omega arith)) ]

-- frame f, which is not free, becomes so
module _ (n : ℕ) (K D P : ℕ → ℕ) (count f : ℕ) (s : FreeSet n K D P count) (hf : f < n) (was : K f ≡ FREE → ⊥) where
  outside : count ≤ P f
  outside = ltb-false (P f) count (sym (s.in_set f hf) ∙ ne_eqb (K f) FREE was)

  pub room_left : count < n
  room_left = let a = s.p_low f hf in let b = outside in omega arith

  pub joined_set : FreeSet n (upd K f FREE) (swapped D P f count) (swapped P D count f) (count + 1)
  joined_set =
      let r = room_left in
      let more : count + 1 ≤ n = omega arith in
      let there_is : count < count + 1 = omega arith in
      exchanged n K D P count f count s hf room_left FREE (count + 1) more (sym (lt-ltb count (count + 1) there_is)) there other
    where
      there : (x : ℕ) → x < n → (x ≡ count → ⊥) → ltb x (count + 1) ≡ ltb x count
      there x l ne = elim (lt? x count) [
        | inl a ↦ lt-ltb x (count + 1) (omega arith) ∙ sym (lt-ltb x count a)
        | inr a ↦ le-ltb x (count + 1) (past x count a ne) ∙ sym (le-ltb x count a)
      ]
        where
          past : (x count : ℕ) → count ≤ x → (x ≡ count → ⊥) → count + 1 ≤ x
          past x count a ne = elim (lt? x (count + 1)) [ inl b ↦ absurd (ne (omega arith)) | inr b ↦ b ]

      other : (ltb (P f) (count + 1) ≡ ltb count count) ⊎ (P f ≡ count)
      other =
          let o = outside in
          let none : count ≤ count = omega arith in
          elim (lt? count (P f)) [
            | inl e ↦ inl (le-ltb (P f) (count + 1) (omega arith) ∙ sym (le-ltb count count none))
            | inr e ↦ inr (omega arith)
          ]

-- frame f, which is not free, becomes v, which is not either
pub kept_set : (n : ℕ) (K D P : ℕ → ℕ) (count f v : ℕ) → FreeSet n K D P count → (K f ≡ FREE → ⊥) → (v ≡ FREE → ⊥) →
    FreeSet n (upd K f v) D P count
kept_set n K D P count f v s was now = record {
  few = s.few;
  d_low = s.d_low;
  p_low = s.p_low;
  p_d = s.p_d;
  d_p = s.d_p;
  in_set = member;
}
  where
    member : (x : ℕ) → x < n → eqb (upd K f v x) FREE ≡ ltb (P x) count
    member x l = elim (eq? x f) [
      | inl a ↦ rw (upd_at K f v x a, ne_eqb v FREE now) (sym (ne_eqb (K f) FREE was) ∙ ap (λ (y : ℕ). eqb (K y) FREE) (sym a)
          ∙ s.in_set x l)
      | inr a ↦ rw (upd_other K f v x a) (s.in_set x l)
    ]
