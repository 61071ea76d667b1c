-- Laws of specs/Kinds.
use mathlib.Core.Path.{◌≡◌, refl, sym, ap, ◌∙◌}
use mathlib.Core.Bool.{Bool, true, false, cond}
use mathlib.Core.Logic.{inl, inr}
use Prim.Native.Nat.{ℕ, ◌<◌, ◌≤◌}
use native.Mathlib.Omega.{arith}
use lib.Dec.{eqb, ltb, leb}
use borrow.Author.Tests.{lt-ltb, le-ltb, le-leb, ne_eqb}
use Rattle.model.proofs.Laws.Base.{eq?, lt?}
use Rattle.model.specs.State.{KindOfFrame, monitor, free, table, draining_table, page, draining_page, is_free, is_page, is_page_of}
use Rattle.model.specs.Changes.{drained, released}
use Rattle.model.specs.State.{NOTHING, WRITING, kind_number, MONITOR, FREE, TABLE, DRAINING_TABLE, PAGE, DRAINING_PAGE}
use Rattle.ledger.specs.Columns.{KIND, GUEST, HEIGHT, RANGE}
use Rattle.ledger.specs.Layout.{kind_at, size_in, kind_in}
use Rattle.ledger.specs.Kinds.{guest_in, kind_code, known_kind, kind_for, known_share}
use Rattle.ledger.specs.declared.kinds.Kind.{Kind}
use Rattle.ledger.specs.declared.kinds.Kind.TheVariants.{Monitor, Free, Table, DrainingTable, Page, DrainingPage}

-- a frame that is there
pub kind_here : (F G : ℕ → ℕ → ℕ) (f : ℕ) → f < size_in G → kind_in F G f ≡ kind_at (F KIND f) (F GUEST f) (F HEIGHT f) (F RANGE f)
unfolding kind_in
kind_here F G f l = rw (lt-ltb f (size_in G) l)

-- What holds of each kind and its number holds of every stored one.
module _ (g h p : ℕ) where
  abbrev Other : ℕ → Type 0
  Other k = (k ≡ FREE → ⊥) × (k ≡ TABLE → ⊥) × (k ≡ DRAINING_TABLE → ⊥) × (k ≡ PAGE → ⊥) × (k ≡ DRAINING_PAGE → ⊥)

  each : (P : ℕ → KindOfFrame → Type 0) → P FREE free → P TABLE (table g h p) → P DRAINING_TABLE (draining_table g h p) → P PAGE (page g) →
      P DRAINING_PAGE (draining_page g) →
      ((k : ℕ) → Other k → P k monitor) → (k : ℕ) → P k (kind_at k g h p)
  unfolding kind_at
  each P a b c d e o k = elim (eq? k FREE) [
    | inl x ↦ rw x a
    | inr x ↦ elim (eq? k TABLE) [
      | inl y ↦ rw y b
      | inr y ↦ elim (eq? k DRAINING_TABLE) [
        | inl z ↦ rw z c
        | inr z ↦ elim (eq? k PAGE) [
          | inl u ↦ rw u d
          | inr u ↦ elim (eq? k DRAINING_PAGE) [
            | inl v ↦ rw v e
            | inr v ↦ rw
                (ne_eqb k FREE x, ne_eqb k TABLE y, ne_eqb k DRAINING_TABLE z, ne_eqb k PAGE u, ne_eqb k DRAINING_PAGE v)
                (o k (x, y, z, u, v))
          ]
        ]
      ]
    ]
  ]

  -- the tests of a stored kind
  pub free_test : (k : ℕ) → is_free (kind_at k g h p) ≡ eqb k FREE
  free_test = each (λ k x. is_free x ≡ eqb k FREE) refl refl refl refl refl (λ k o. sym (ne_eqb k FREE o.0))

  pub page_test : (k : ℕ) → is_page (kind_at k g h p) ≡ eqb k PAGE
  page_test = each (λ k x. is_page x ≡ eqb k PAGE) refl refl refl refl refl (λ k o. sym (ne_eqb k PAGE o.3))

  pub page_of_test : (x k : ℕ) → is_page_of (kind_at k g h p) x ≡ eqb (cond (eqb g x) k MONITOR) PAGE
  page_of_test x = each (λ k y. is_page_of y x ≡ eqb (cond (eqb g x) k MONITOR) PAGE)
      (no (eqb g x) FREE (λ e. omega arith)) (no (eqb g x) TABLE (λ e. omega arith)) (no (eqb g x) DRAINING_TABLE (λ e. omega arith))
      (yes (eqb g x)) (no (eqb g x) DRAINING_PAGE (λ e. omega arith)) (λ k o. no (eqb g x) k o.3)
    where
      no : (b : Bool) (k : ℕ) → (k ≡ PAGE → ⊥) → false ≡ eqb (cond b k MONITOR) PAGE
      no true k ne = sym (ne_eqb k PAGE ne)
      no false k ne = refl

      yes : (b : Bool) → b ≡ eqb (cond b PAGE MONITOR) PAGE
      yes true = refl
      yes false = refl

  unless : (x y : KindOfFrame) (b : Bool) (k : ℕ) → (cond b k MONITOR ≡ k → ⊥) → cond b x y ≡ y
  unless x y true k ne = absurd (ne refl)
  unless x y false k ne = refl

  -- destroy: a table and a page of the guest drain, and no other
  pub stays : (x k : ℕ) → (cond (eqb g x) k MONITOR ≡ TABLE → ⊥) → (cond (eqb g x) k MONITOR ≡ PAGE → ⊥) →
      drained x (kind_at k g h p) ≡ kind_at k g h p
  unfolding drained
  stays x = each (λ k y. (cond (eqb g x) k MONITOR ≡ TABLE → ⊥) → (cond (eqb g x) k MONITOR ≡ PAGE → ⊥) → drained x y ≡ y)
      (λ _ _. refl) (λ a _. unless _ _ (eqb g x) TABLE a) (λ _ _. refl) (λ _ b. unless _ _ (eqb g x) PAGE b) (λ _ _. refl)
      (λ k o _ _. refl)

  -- invalidated: what drains for the guest is free, and no other
  pub remains : (x k : ℕ) → (cond (eqb g x) k MONITOR ≡ DRAINING_TABLE → ⊥) → (cond (eqb g x) k MONITOR ≡ DRAINING_PAGE → ⊥) →
      released x (kind_at k g h p) ≡ kind_at k g h p
  unfolding released
  remains x = each (λ k y. (cond (eqb g x) k MONITOR ≡ DRAINING_TABLE → ⊥) → (cond (eqb g x) k MONITOR ≡ DRAINING_PAGE → ⊥) →
      released x y ≡ y)
      (λ _ _. refl) (λ _ _. refl) (λ a _. unless _ _ (eqb g x) DRAINING_TABLE a) (λ _ _. refl)
      (λ _ b. unless _ _ (eqb g x) DRAINING_PAGE b) (λ k o _ _. refl)

  -- the number of what it is, and whose it is
  pub number_test : (k : ℕ) → kind_number (kind_at k g h p) ≡ cond (ltb DRAINING_PAGE k) MONITOR k
  number_test = each (λ k x. kind_number x ≡ cond (ltb DRAINING_PAGE k) MONITOR k) refl refl refl refl refl
      (λ k o. elim (lt? DRAINING_PAGE k) [
        | inl l ↦ rw (lt-ltb DRAINING_PAGE k l)
        | inr l ↦ rw (le-ltb DRAINING_PAGE k l) (none k o.0 o.1 o.2 o.3 o.4 l)
      ])
    where
      none : (k : ℕ) → (k ≡ FREE → ⊥) → (k ≡ TABLE → ⊥) → (k ≡ DRAINING_TABLE → ⊥) → (k ≡ PAGE → ⊥) → (k ≡ DRAINING_PAGE → ⊥) →
          k ≤ DRAINING_PAGE → MONITOR ≡ k
      none k a b c d e l = elim (eq? MONITOR k) [ inl x ↦ x | inr x ↦ absurd (omega arith) ]

  pub guest_is_in : (k : ℕ) → TABLE ≤ kind_number (kind_at k g h p) → guest_in (kind_at k g h p) ≡ g
  guest_is_in = each (λ k x. TABLE ≤ kind_number x → guest_in x ≡ g) (λ l. absurd (omega arith)) (λ l. refl) (λ l. refl) (λ l. refl)
      (λ l. refl) (λ k o l. absurd (omega arith))

-- the same of a frame that is there
module _ (F G : ℕ → ℕ → ℕ) (f : ℕ) (low : f < size_in G) where
  pub free_here : is_free (kind_in F G f) ≡ eqb (F KIND f) FREE
  free_here = ap is_free (kind_here F G f low) ∙ free_test (F GUEST f) (F HEIGHT f) (F RANGE f) (F KIND f)

  pub page_of_here : (g : ℕ) → is_page_of (kind_in F G f) g ≡ eqb (kind_for F f g) PAGE
  page_of_here g = ap (λ (x : KindOfFrame). is_page_of x g) (kind_here F G f low)
      ∙ page_of_test (F GUEST f) (F HEIGHT f) (F RANGE f) g (F KIND f)

  pub number_here : kind_number (kind_in F G f) ≡ cond (ltb DRAINING_PAGE (F KIND f)) MONITOR (F KIND f)
  number_here = ap kind_number (kind_here F G f low) ∙ number_test (F GUEST f) (F HEIGHT f) (F RANGE f) (F KIND f)

  pub guest_here : (k : ℕ) → k ≡ kind_number (kind_in F G f) → TABLE ≤ k → F GUEST f ≡ guest_in (kind_in F G f)
  guest_here k e l = rw (kind_here F G f low) (sym (guest_is_in (F GUEST f) (F HEIGHT f) (F RANGE f) (F KIND f)
      (rw (e, kind_here F G f low) at l)))

-- the kind of a number
abbrev named : ℕ → Kind
named n =
    cond (eqb n FREE) Free (
    cond (eqb n TABLE) Table (
    cond (eqb n DRAINING_TABLE) DrainingTable (
    cond (eqb n PAGE) Page (
    cond (eqb n DRAINING_PAGE) DrainingPage (
    Monitor)))))

named_code : (k : Kind) → named (kind_code k) ≡ k
named_code Monitor = refl
named_code Free = refl
named_code Table = refl
named_code DrainingTable = refl
named_code Page = refl
named_code DrainingPage = refl

-- each kind has its own number
pub code_apart : (k j : Kind) → (k ≡ j → ⊥) → kind_code k ≡ kind_code j → ⊥
code_apart k j ne e = ne (sym (named_code k) ∙ ap named e ∙ named_code j)

pub known_code : (k : Kind) → known_kind (kind_code k) ≡ kind_code k
known_code Monitor = refl
known_code Free = refl
known_code Table = refl
known_code DrainingTable = refl
known_code Page = refl
known_code DrainingPage = refl

-- what of a stored number Shared keeps
pub known_nothing : (n : ℕ) → eqb (known_share n) NOTHING ≡ eqb n NOTHING
known_nothing n = elim (lt? WRITING n) [
  | inl l ↦ rw (lt-ltb WRITING n l, ne_eqb n NOTHING (λ e. omega arith)) refl
  | inr l ↦ rw (le-ltb WRITING n l) refl
]

pub known_writing : (n : ℕ) → leb WRITING (known_share n) ≡ leb WRITING n
known_writing n = elim (lt? WRITING n) [
  | inl l ↦ rw (lt-ltb WRITING n l, le-leb WRITING n (omega arith)) refl
  | inr l ↦ rw (le-ltb WRITING n l) refl
]
