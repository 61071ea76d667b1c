-- Laws of specs/Way.
use mathlib.Core.Path.{◌≡◌, refl, sym, ap, subst, ◌∙◌}
use mathlib.Core.Bool.{true, false, true≢false}
use mathlib.Core.Logic.{inl, inr}
use mathlib.Core.Option.{Option, none, some}
use mathlib.Core.List.{List}
use Prim.Native.Nat.{ℕ, zero, suc, ◌-◌, ◌*◌, ◌<◌, ◌≤◌, ◌/◌, ◌%◌, ◌^◌}
use native.Mathlib.Omega.{arith}
use Rattle.model.proofs.Laws.Base.{eq?}
use Rattle.model.specs.State.{State, table, page_count}
use Rattle.model.specs.Entry.{entry, to_table}
use Rattle.model.specs.Translate.{upper, index, entry_at, descend, missing_from, missing, Page, leaf, translate, is_some, mapped}
use Rattle.model.specs.Translate.{At}
use Rattle.model.proofs.Laws.Ways.{Shows, shows, at_root, descend_down, descend_stop, descend_last, missing_down, missing_stop, grow_down, Leads, leads, reads_empty}
use Rattle.model.specs.Invariant.{Core}
use Rattle.model.proofs.Invariant.Core.{low}
use Rattle.model.proofs.Invariant.Way.{leaf_there, translate_at, translate_empty}
use Rattle.ledger.specs.Layout.{size_of, first_of, exists_of, root_of, word_of, state_in, state_of}
use Rattle.ledger.specs.Words.{Within}
use Rattle.ledger.specs.Sound.{Sound}
use Rattle.ledger.proofs.Laws.Sound.{within}
use Rattle.monitor_tables.specs.Entries.{ToTable}
use Rattle.monitor_tables.specs.Way.{Reached, Ended}

-- a shift by s bits leaves out the last h groups of nine bits, where s is nine for each
shift_of : (h v : ℕ) → h ≤ 3 → v / 2 ^ (9 * h) ≡ upper h v
unfolding upper
shift_of h v l = elim (eq? h 0) [
  | inl e ↦ rw e (omega arith)
  | inr n0 ↦ elim (eq? h 1) [
    | inl e ↦ rw e
    | inr n1 ↦ elim (eq? h 2) [
      | inl e ↦ rw e (omega arith)
      | inr n2 ↦ let e : h ≡ 3 = omega arith in rw e (omega arith)
    ]
  ]
]

pub shifted : (h v s : ℕ) → h ≤ 3 → s ≡ 9 * h → v / 2 ^ s ≡ upper h v
shifted h v s l e = rw e (shift_of h v l)

module _ (s : State) (c : Core s) (g v : ℕ) where
  pub reached_root : s.exists g ≡ true → v < page_count → Reached s g v 3 (s.root g)
  reached_root e l = record { high = omega arith; serves = at_root s c g v e l; way = refl; lacks = refl; grows = λ pick. refl }

  step_down : (h t : ℕ) → Reached s g v (suc h) t → (y : Leads s g h (upper (suc h) v) (s.word t (index (suc h) v))
      (entry_at s t (index (suc h) v))) → Reached s g v h y.to
  step_down h t a y = record {
    high = let k = a.high in omega arith;
    serves = y.serves;
    way = a.way ∙ descend_down s h t v y.to y.reads;
    lacks = a.lacks ∙ missing_down s h t v y.to y.reads;
    grows = λ pick. a.grows pick ∙ grow_down s h t v g pick y.to y.reads;
  }

  -- an entry that is not empty leads to a table, and from there the way goes on
  pub reached_leads : (h t x : ℕ) → Reached s g v h t → 0 < h → x ≡ s.word t (index h v) → (x ≡ 0 → ⊥) → ToTable s.first x
  reached_leads zero t x a l e ne = absurd (omega arith)
  reached_leads (suc h) t x a l e ne = let y = leads s c g t h v a.serves (λ z. ne (e ∙ z))
      in (y.to, ap (entry s.first) e ∙ y.reads)

  pub reached_down : (h t x u : ℕ) → Reached s g v h t → 0 < h → x ≡ s.word t (index h v) → (x ≡ 0 → ⊥) →
      entry s.first x ≡ to_table u →
      Reached s g v (h - 1) u
  reached_down zero t x u a l e ne q = absurd (omega arith)
  reached_down (suc h) t x u a l e ne q =
      let y = leads s c g t h v a.serves (λ z. ne (e ∙ z)) in
      let z : to_table y.to ≡ to_table u = sym y.reads ∙ ap (entry s.first) (sym e) ∙ q in
      let d : y.to ≡ u = cc in
      let k : h ≡ suc h - 1 = omega arith in
      subst (λ (z : ℕ). Reached s g v z u) k (subst (λ (z : ℕ). Reached s g v h z) d (step_down h t a y))

  pub reached_low : (h t : ℕ) → Reached s g v h t → t < s.size
  reached_low h t a = low s c t (table g h (upper (suc h) v)) a.serves refl

  -- where it ends
  pub ended_last : (h t : ℕ) → Reached s g v h t → h < 1 → Ended s g v 0 t
  ended_last h t a l = let z : h ≡ 0 = omega arith in subst (λ (x : ℕ). Ended s g v x t) z (record { reached = a; stops = inl z })

  pub ended_short : (h t x : ℕ) → Reached s g v h t → x ≡ s.word t (index h v) → x ≡ 0 → Ended s g v h t
  ended_short h t x a e z = record { reached = a; stops = inr (sym e ∙ z) }

  no_leaf : leaf s g v ≡ none → mapped s g v ≡ false
  unfolding translate
  no_leaf e = rw e

  pub ended_above : (h t : ℕ) → s.exists g ≡ true → Ended s g v h t → (h ≡ 0 → ⊥) → mapped s g v ≡ false
  ended_above zero t e a ne = absurd (ne refl)
  ended_above (suc h) t e a ne = no_leaf (leaf_there s c g v e ∙ a.reached.way ∙ elim a.stops [
    | inl z ↦ absurd (ne z)
    | inr z ↦ descend_stop s h t v (reads_empty s t (index (suc h) v) z)
  ])

  pub ended_missing : (h t : ℕ) → Ended s g v h t → missing s g v ≡ h
  ended_missing zero t a = a.reached.lacks ∙ last t
    where
      last : (t : ℕ) → missing_from s 0 t v ≡ 0
      last t = unfold missing_from in refl
  ended_missing (suc h) t a = a.reached.lacks ∙ elim a.stops [
    | inl z ↦ absurd (omega arith)
    | inr z ↦ missing_stop s h t v (reads_empty s t (index (suc h) v) z)
  ]

  module _ (t : ℕ) (e : s.exists g ≡ true) (h : ℕ) (a : Ended s g v h t) (z : h ≡ 0) where
    pub last_serves : At s g 0 v t
    last_serves = subst (λ (x : ℕ). At s g x v t) z a.reached.serves

    pub last_leaf : leaf s g v ≡ some t
    last_leaf = leaf_there s c g v e ∙ a.reached.way ∙ ap (λ (x : ℕ). descend s x t v) z ∙ descend_last s t v

    pub last_empty : (x : ℕ) → x ≡ s.word t (v % 512) → x ≡ 0 → mapped s g v ≡ false
    last_empty x q y = ap (λ (o : Option Page). is_some o) (translate_empty s g v t last_leaf (reads_empty s t (v % 512) (sym q ∙ y)))

-- a page that is mapped: the way comes to a last table, and its entry shows the page
pub mapped_shows : (s : State) (c : Core s) (g v h t : ℕ) → s.exists g ≡ true → Ended s g v h t → mapped s g v ≡ true →
    (h ≡ 0) × Shows s g (s.word t (v % 512)) (entry_at s t (v % 512))
mapped_shows s c g v h t e a y = elim (eq? h 0) [
  | inr ne ↦ absurd (true≢false (sym y ∙ ended_above s c g v h t e a ne))
  | inl z ↦ (
    z,
    shows s c g t v (last_serves s c g v t e h a z)
        (λ w. true≢false (sym y ∙ last_empty s c g v t e h a z (s.word t (v % 512)) refl w)),
  )
]

-- the same, of the two slices
module _ {m l : List ℕ} (ok : Sound m l) where
  pub way_root : (g v t : ℕ) → t ≡ root_of l g → exists_of l g ≡ true → v < page_count → Reached (state_of m l) g v 3 t
  way_root g v t e q k = subst (λ (x : ℕ). Reached (state_of m l) g v 3 x) (sym e)
      (unfold state_in in reached_root (state_of m l) ok.core g v q k)

  module _ {g v h t : ℕ} (a : Reached (state_of m l) g v h t) where
    pub way_low : t < size_of l
    way_low = let k : t < (state_of m l).size = reached_low (state_of m l) ok.core g v h t a in unfold state_in in k

    pub way_words : (t < page_count) × Within m t
    way_words = let k = way_low in let few = ok.ledger_sound.few in (omega arith, within m l ok t k)

    module _ (first x : ℕ) (e : first ≡ first_of l) (p : 0 < h) (q : x ≡ word_of m t (index h v)) (ne : x ≡ 0 → ⊥) where
      pub way_leads : ToTable first x
      way_leads = rw e (unfold state_in in reached_leads (state_of m l) ok.core g v h t x a p q ne)

      pub way_down : (u : ℕ) → entry first x ≡ to_table u → Reached (state_of m l) g v (h - 1) u
      way_down u r = unfold state_in in reached_down (state_of m l) ok.core g v h t x u a p q ne (ap (λ (y : ℕ). entry y x) (sym e) ∙ r)

    pub way_short : (x : ℕ) → x ≡ word_of m t (index h v) → x ≡ 0 → Ended (state_of m l) g v h t
    unfolding state_in
    way_short x e z = ended_short (state_of m l) ok.core g v h t x a e z

-- whether there is an entry at the end of the way
module _ {m l : List ℕ} (ok : Sound m l) {g v : ℕ} (ex : exists_of l g ≡ true) {h t : ℕ} (way : Ended (state_of m l) g v h t) where
  there : (state_of m l).exists g ≡ true
  there = unfold state_in in ex

  pub mapped_above : (h ≡ 0 → ⊥) → false ≡ mapped (state_of m l) g v
  mapped_above ne = sym (ended_above (state_of m l) ok.core g v h t there way ne)

  module _ (z : h ≡ 0) (x : ℕ) (e : x ≡ word_of m t (v % 512)) where
    word_is : x ≡ (state_of m l).word t (v % 512)
    word_is = unfold state_in in e

    pub mapped_not : x ≡ 0 → false ≡ mapped (state_of m l) g v
    mapped_not y = sym (last_empty (state_of m l) ok.core g v t there h way z x word_is y)

    pub mapped_here : (x ≡ 0 → ⊥) → true ≡ mapped (state_of m l) g v
    mapped_here ne =
        let y = shows (state_of m l) ok.core g t v (last_serves (state_of m l) ok.core g v t there h way z) (λ q. ne (word_is ∙ q))
        in
        let leaf_is = last_leaf (state_of m l) ok.core g v t there h way z in
        sym (ap (λ (o : Option Page). is_some o) (translate_at (state_of m l) g v t y.frame y.rights leaf_is y.reads))

-- what is known at the end of the way
pub ruleset ends = (way_words, mapped_above, mapped_not, mapped_here)
