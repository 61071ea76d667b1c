-- Laws of specs/View: states over spaces that are equal part by part; a word stored; a frame cleared, word by word.
use mathlib.Core.Path.{subst, ◌≡◌, refl, sym, ap, ◌∙◌}
use mathlib.Core.Bool.{Bool, true, false, ◌&&◌, cond}
use mathlib.Core.Logic.{inl, inr}
use Prim.Native.Nat.{ℕ, zero, suc, ◌<◌}
use native.Mathlib.Omega.{arith}
use lib.Dec.{eqb, ltb}
use borrow.Author.Tests.{eq-eqb, ne_eqb, lt-ltb, le-ltb}
use Rattle.model.proofs.Laws.Base.{bool?, eq?, lt?, upd_at, upd_other, upd2_at, upd2_other}
use Rattle.model.specs.Base.{upd, upd2}
use Rattle.model.specs.State
use Rattle.model_moves.specs.Spaces.{Spaces, Space, free, with_word, store}
use Rattle.model_moves.specs.Moves.{untabled, put}
use Rattle.model_moves.specs.Path.{Deed, puts, Way}
use Rattle.model_moves.proofs.Laws.Paths.{stay, by, onward, way_to}
use Rattle.model_paths.specs.View.{use_of, words_of, view}

-- equal part by part
pub same : (a b : Spaces) → a.size ≡ b.size → a.first ≡ b.first → ((f : ℕ) → a.kind f ≡ b.kind f) →
    ((f c : ℕ) → a.shared f c ≡ b.shared f c) → ((f c j : ℕ) → a.waits f c j ≡ b.waits f c j) →
    ((c : ℕ) → a.space c ≡ b.space c) → ((c j v : ℕ) → a.stale c j v ≡ b.stale c j v) → ((f i : ℕ) → a.word f i ≡ b.word f i) → a ≡ b
same a b e1 e2 e3 e4 e5 e6 e7 e8 = λ k. record {
  size = e1 k;
  first = e2 k;
  kind = λ f. e3 f k;
  shared = λ f c. e4 f c k;
  waits = λ f c j. e5 f c j k;
  space = λ c. e6 c k;
  stale = λ c j v. e7 c j v k;
  word = λ f i. e8 f i k;
}

pub same_space : (a b : Space) → a.exists ≡ b.exists → a.serves ≡ b.serves → a.height ≡ b.height → a.wide ≡ b.wide →
    a.root ≡ b.root → a ≡ b
same_space a b e1 e2 e3 e4 e5 = λ k. record { exists = e1 k; serves = e2 k; height = e3 k; wide = e4 k; root = e5 k }

-- a word is stored
pub words_low : (w : ℕ → ℕ → ℕ) (f i : ℕ) → i < 512 → words_of w f i ≡ w f i
words_low w f i l = rw (lt-ltb i 512 l)

pub words_store : (w : ℕ → ℕ → ℕ) (t i x : ℕ) → i < 512 → (f n : ℕ) → upd2 (words_of w) t i x f n ≡ words_of (upd2 w t i x) f n
words_store w t i x l f n = elim (eq? f t) [
  | inr e ↦ upd2_other (words_of w) t i x f n (λ a b. e a)
      ∙ ap (λ (z : ℕ). cond (ltb n 512) z 0) (sym (upd2_other w t i x f n (λ a b. e a)))
  | inl e ↦ elim (eq? n i) [
    | inr q ↦ upd2_other (words_of w) t i x f n (λ a b. q b)
        ∙ ap (λ (z : ℕ). cond (ltb n 512) z 0) (sym (upd2_other w t i x f n (λ a b. q b)))
    | inl q ↦ upd2_at (words_of w) t i x f n e q
        ∙ sym (ap (λ (b : Bool). cond b (upd2 w t i x f n) 0) (ap (λ (z : ℕ). ltb z 512) q ∙ lt-ltb i 512 l) ∙ upd2_at w t i x f n e q)
  ]
]

-- n words of frame f are cleared
abbrev pub wiped : (w : ℕ → ℕ → ℕ) (f n : ℕ) → ℕ → ℕ → ℕ
wiped w f n t i = cond (eqb t f && ltb i n) 0 (w t i)

wiped_more : (w : ℕ → ℕ → ℕ) (f n t i : ℕ) → upd2 (wiped w f n) f n 0 t i ≡ wiped w f (suc n) t i
wiped_more w f n t i = elim (eq? t f) [
  | inr e ↦ upd2_other (wiped w f n) f n 0 t i (λ a b. e a) ∙ rw (ne_eqb t f e)
  | inl e ↦ elim (eq? i n) [
    | inl q ↦ upd2_at (wiped w f n) f n 0 t i e q ∙ rw (eq-eqb t f e, lt-ltb i (suc n) (omega arith))
    | inr q ↦ upd2_other (wiped w f n) f n 0 t i (λ a b. q b) ∙ elim (lt? i n) [
      | inl l ↦ rw (eq-eqb t f e, lt-ltb i n l, lt-ltb i (suc n) (omega arith))
      | inr l ↦ rw (eq-eqb t f e, le-ltb i n l, le-ltb i (suc n) (omega arith))
    ]
  ]
]

pub wipe : (D : Deed → Type 0) (s : Spaces) (f : ℕ) → s.kind f ≡ free → D (puts f free) → (n : ℕ) →
    Way D s (with_word s (wiped s.word f n))
wipe D s f e d zero =
    way_to D (stay D) (same s (with_word s (wiped s.word f 0)) refl refl (λ f. refl) (λ f c. refl) (λ f c j. refl) (λ c. refl)
    (λ c j v. refl) none)
  where
    none : (t i : ℕ) → s.word t i ≡ wiped s.word f 0 t i
    none t i = elim (bool? (eqb t f)) [ inl e ↦ rw (e, le-ltb i 0 (omega arith)) | inr e ↦ rw e ]
wipe D s f e d (suc n) = onward D (wipe D s f e d n) (by D (put f n 0 (ap untabled e)) (subst D (ap (puts f) (sym e)) d) (way_to D (stay D)
    (same (store (with_word s (wiped s.word f n)) f n 0) (with_word s (wiped s.word f (suc n))) refl refl (λ f. refl) (λ f c. refl)
    (λ f c j. refl) (λ c. refl) (λ c j v. refl) (wiped_more s.word f n))))

-- a free frame is cleared: 512 stores
pub clearing : (D : Deed → Type 0) (s : State.State) (f : ℕ) → s.kind f ≡ State.free → D (puts f free) →
    Way D (view s) (with_word (view s) (words_of (upd s.word f (λ i. 0))))
clearing D s f e d = way_to D (wipe D (view s) f (ap use_of e) d 512)
    (same (with_word (view s) (wiped (words_of s.word) f 512)) (with_word (view s) (words_of (upd s.word f (λ i. 0)))) refl refl
    (λ f. refl) (λ f c. refl) (λ f c j. refl) (λ c. refl) (λ c j v. refl) all)
  where
    all : (t i : ℕ) → wiped (words_of s.word) f 512 t i ≡ words_of (upd s.word f (λ i. 0)) t i
    all t i = elim (eq? t f) [
      | inr q ↦ rw (ne_eqb t f q, upd_other s.word f (λ i. 0) t q)
      | inl q ↦ rw (eq-eqb t f q, upd_at s.word f (λ i. 0) t q) (go (ltb i 512))
    ]
      where
        go : (b : Bool) → cond b 0 (cond b (s.word t i) 0) ≡ cond b 0 0
        go true = refl
        go false = refl
