-- Kinds of frames told apart, and what a test says of one.
use mathlib.Core.Path.{◌≡◌, refl, sym, ap, ◌∙◌}
use mathlib.Core.Bool.{true, false}
use mathlib.Core.Logic.{inl, inr}
use Prim.Native.Nat.{ℕ}
use lib.Dec.{eqb}
use borrow.Author.Tests.{eqb-true, eqb-false}
use Rattle.model.proofs.Laws.Base.{eq?}
use Rattle.model.specs.Base.{upd}
use Rattle.model.proofs.Laws.Base.{upd_other, upd_not}
use Rattle.model.specs.State.{kind_number, KindOfFrame, monitor, free, table, draining_table, page, draining_page, is_free, is_page, is_page_of}

pub clash : {x y : KindOfFrame} → x ≡ y → eqb (kind_number x) (kind_number y) ≡ false → ⊥
clash {x} {y} e q = eqb-false (kind_number x) (kind_number y) q (ap kind_number e)

-- frame f was x and becomes y: frames of another sort stay what they are
pub kind_keep : (kind : ℕ → KindOfFrame) (f : ℕ) (x y : KindOfFrame) → kind f ≡ x → (t : ℕ) (z : KindOfFrame) → kind t ≡ z →
    eqb (kind_number x) (kind_number z) ≡ false → upd kind f y t ≡ z
kind_keep kind f x y hf t z ht q =
    elim (eq? t f) [
      | inl p ↦ absurd (clash {x = x} {y = z} (sym hf ∙ ap kind (sym p) ∙ ht) q)
      | inr p ↦ upd_other kind f y t p ∙ ht
    ]

pub kind_from : (kind : ℕ → KindOfFrame) (f : ℕ) (y : KindOfFrame) (t : ℕ) (z : KindOfFrame) → upd kind f y t ≡ z →
    eqb (kind_number y) (kind_number z) ≡ false → kind t ≡ z
kind_from kind f y t z h q = (upd_not kind f y z t (λ e. clash {x = y} {y = z} e q) h).1

pub free_is : (x : KindOfFrame) → is_free x ≡ true → x ≡ free
free_is monitor e = cc
free_is free e = refl
free_is (table g h p) e = cc
free_is (draining_table g h p) e = cc
free_is (page g) e = cc
free_is (draining_page g) e = cc

pub page_of_is : (x : KindOfFrame) (g : ℕ) → is_page_of x g ≡ true → x ≡ page g
page_of_is monitor g e = cc
page_of_is free g e = cc
page_of_is (table h n p) g e = cc
page_of_is (draining_table h n p) g e = cc
page_of_is (page h) g e = ap page (eqb-true h g e)
page_of_is (draining_page h) g e = cc

pub page_is : (x : KindOfFrame) → is_page x ≡ true → (o : ℕ) × (x ≡ page o)
page_is monitor e = (0, cc)
page_is free e = (0, cc)
page_is (table h n p) e = (0, cc)
page_is (draining_table h n p) e = (0, cc)
page_is (page h) e = (h, refl)
page_is (draining_page h) e = (0, cc)
