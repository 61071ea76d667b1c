-- The number of places that lead to a frame, when the state changes.
use mathlib.Core.Path.{◌≡◌, refl, ◌∙◌}
use mathlib.Core.Bool.{Bool, true, false, ◌&&◌, cond}
use Prim.Native.Nat.{ℕ, suc, ◌+◌, ◌<◌}
use native.Mathlib.Omega.{arith}
use lib.Dec.{eqb}
use borrow.Author.Tests.{eq-eqb, ne_eqb}
use Rattle.model.specs.Base.{sum}
use Rattle.model.proofs.Laws.Base.{sum_cong, sum_zero, sum2_point}
use Rattle.model.specs.State.{State, KindOfFrame, monitor, free, table, draining_table, page, draining_page}
use Rattle.model.specs.Entry.{Entry, empty, to_page}
use Rattle.model.specs.Translate.{entry_at}
use Rattle.model.specs.State.{kind_number, TABLE}
use Rattle.model.proofs.Invariant.Kinds.{clash}
use Rattle.model.specs.Invariant.{is_last, leads, hit, places}

pub hit_page : (x : KindOfFrame) (e : Entry) (f g p r : ℕ) → x ≡ table g 0 p → e ≡ to_page f r → hit x e f g ≡ 1
unfolding hit
hit_page x e f g p r a b = rw (a, b) (rw (eq-eqb g g refl, eq-eqb f f refl))

neither : (b : Bool) → ◌≡◌ {A = ℕ} (cond (b && false) 1 0) 0
neither true = refl
neither false = refl

pub hit_else : (f f' r : ℕ) (x : KindOfFrame) (g : ℕ) → (f' ≡ f → ⊥) → hit x (to_page f' r) f g ≡ 0
unfolding hit
hit_else f f' r x g ne = rw (ne_eqb f' f ne) (neither (is_last x g))

pub hit_empty : (x : KindOfFrame) (f g : ℕ) → hit x empty f g ≡ 0
unfolding hit
hit_empty x f g = neither (is_last x g)

pub hit_other : (g h p : ℕ) (e : Entry) (f g' : ℕ) → (g ≡ g' → ⊥) → hit (table g h p) e f g' ≡ 0
unfolding hit
hit_other g h p e f g' ne = rw (ne_eqb g g' ne)

pub hit_high : (g h p : ℕ) (e : Entry) (f g' : ℕ) → hit (table g (suc h) p) e f g' ≡ 0
unfolding hit
hit_high g h p e f g' = rw (ne_eqb (suc h) 0 (λ z. omega arith)) (go (eqb g g') (leads e f))
  where
    go : (b x : Bool) → ◌≡◌ {A = ℕ} (cond ((b && false) && x) 1 0) 0
    go true x = refl
    go false x = refl

-- only tables lead anywhere
pub hit_plain : (x : KindOfFrame) (e : Entry) (f g : ℕ) → eqb (kind_number x) TABLE ≡ false → hit x e f g ≡ 0
unfolding hit
hit_plain monitor e f g q = refl
hit_plain free e f g q = refl
hit_plain (table h n p) e f g q = absurd (clash {x = table h n p} {y = table h n p} refl q)
hit_plain (draining_table h n p) e f g q = refl
hit_plain (page h) e f g q = refl
hit_plain (draining_page h) e f g q = refl

module _ (s s' : State) (f g : ℕ) where
  pub places_cong : s.size ≡ s'.size → ((t i : ℕ) → t < s.size → i < 512 →
      hit (s.kind t) (entry_at s t i) f g ≡ hit (s'.kind t) (entry_at s' t i) f g) → places s f g ≡ places s' f g
  unfolding places
  places_cong e a =
      sum_cong s.size (λ t. sum 512 (λ i. hit (s.kind t) (entry_at s t i) f g))
      (λ t. sum 512 (λ i. hit (s'.kind t) (entry_at s' t i) f g)) (λ t l.
      sum_cong 512 (λ i. hit (s.kind t) (entry_at s t i) f g) (λ i. hit (s'.kind t) (entry_at s' t i) f g) (λ i m. a t i l m))
      ∙ rw e

  -- one entry is changed
  pub places_point : (t i : ℕ) → s.size ≡ s'.size → t < s.size → i < 512 →
      ((t' i' : ℕ) → (t' ≡ t → i' ≡ i → ⊥) → hit (s'.kind t') (entry_at s' t' i') f g ≡ hit (s.kind t') (entry_at s t' i') f g) →
      places s' f g + hit (s.kind t) (entry_at s t i) f g ≡ places s f g + hit (s'.kind t) (entry_at s' t i) f g
  unfolding places
  places_point t i e l m a = rw (← e) (sum2_point s.size 512 (λ x y. hit (s'.kind x) (entry_at s' x y) f g)
      (λ x y. hit (s.kind x) (entry_at s x y) f g) t i l m a)

pub places_zero : (s : State) (f g : ℕ) → places s f g ≡ 0 → (t p i r : ℕ) → t < s.size → i < 512 → s.kind t ≡ table g 0 p →
    entry_at s t i ≡ to_page f r → ⊥
unfolding places
places_zero s f g z t p i r l m a b =
    let c = sum_zero 512 (λ i. hit (s.kind t) (entry_at s t i) f g)
    (sum_zero s.size (λ t. sum 512 (λ i. hit (s.kind t) (entry_at s t i) f g)) z t l) i m in
    omega (arith, hit_page (s.kind t) (entry_at s t i) f g p r a b)
