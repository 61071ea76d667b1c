-- What a move does to leaves, tables and what is stale.
use mathlib.Core.Path.{◌≡◌, refl, sym, ap, ◌∙◌}
use mathlib.Core.Bool.{Bool, true, false, cond}
use mathlib.Core.Logic.{◌⊎◌, inl, inr}
use Prim.Native.Nat.{ℕ, suc, ◌/◌, ◌%◌}
use borrow.Author.Tests.{ne_eqb}
use Rattle.model.proofs.Laws.Base.{eq?, upd_at, upd_other}
use Rattle.model.specs.Base.{upd, upd2}
use Rattle.model.specs.Translate.{upper}
use Rattle.model.specs.Cache.{output, descriptor}
use Rattle.model_moves.specs.Spaces.{Spaces, FrameUse, Space, free, claimed, table, emptied, page, draining, exists}
use Rattle.model_moves.specs.Moves.{Move, put, claim, link, enter, clear, unhook, hand, lend, retire, release, open_space, end, dissolve}
use Rattle.model_moves.proofs.Invariant.Core.{Core, Gone, no_output, next_not}
use Rattle.model_moves.proofs.Invariant.Quiet.{TablesSame}
use Rattle.model_moves.proofs.Invariant.Ledger.{put_tables, taken_tables, kind_keep, kind_from}
use Rattle.model_moves.proofs.Invariant.Draining.{retire_tables, release_tables}
use Rattle.model_moves.proofs.Invariant.Entries.{here?, grown, set_beside, set_here, not_claimed}
use Rattle.model_moves.proofs.Invariant.Dissolve
use Rattle.model_moves.proofs.Invariant.End
use Rattle.model_moves.proofs.Invariant.Link
use Rattle.model_moves.proofs.Invariant.Open
use Rattle.model_moves.proofs.Invariant.Unhook
use Rattle.model_moves.proofs.Invariant.Levels.{no_leaf, LeafAt}

-- tables are where they were, and say what they said
module _ (s : Spaces) (kind' : ℕ → FrameUse) (shared' : ℕ → ℕ → ℕ) (waits' : ℕ → ℕ → ℕ → Bool) (stale' : ℕ → ℕ → ℕ → Bool)
    (word' : ℕ → ℕ → ℕ) (e : TablesSame s kind' shared' waits' stale' word') where
  abbrev Leaf' : (c v l : ℕ) → Type 0
  Leaf' c v l = (t y r : ℕ) × (kind' t ≡ table c l (upper l v / 512)) × (descriptor l (word' t (upper l v % 512)) ≡ output y r)

  quiet_back : (c v l : ℕ) → Leaf' c v l → LeafAt s c v l
  quiet_back c v l a =
      let k = e.from a.0 c l (upper l v / 512) a.3 in
      (a.0, a.1, a.2, k, ap (descriptor l) (sym (e.words a.0 c l (upper l v / 512) (upper l v % 512) k)) ∙ a.4)

  quiet_on : (c v l : ℕ) → LeafAt s c v l → Leaf' c v l
  quiet_on c v l a = (
    a.0,
    a.1,
    a.2,
    e.to a.0 c l (upper l v / 512) a.3,
    ap (descriptor l) (e.words a.0 c l (upper l v / 512) (upper l v % 512) a.3) ∙ a.4,
  )

-- a leaf of now was one before, or is one of a page that is not stale
pub leaf_back : {s s' : Spaces} → Core s → (m : Move s s') (d v l : ℕ) → LeafAt s' d v l →
    LeafAt s d v l ⊎ ((j : ℕ) → s'.stale d j v ≡ false)
unfolding upper
leaf_back {s} k (put f i x u) d v l a =
    inl (quiet_back s s.kind s.shared s.waits s.stale (upd2 s.word f i x) (put_tables s f i x u) d v l a)
leaf_back {s} k (claim t c h p m) d v l a =
    inl (quiet_back s (upd s.kind t (claimed c h p)) s.shared s.waits s.stale s.word
    (taken_tables s t (claimed c h p) m.was refl s.shared (λ t c n. refl)) d v l a)
leaf_back {s} k (link t t' c h q x m) d v l a = elim (Link.new? s t t' c h q x m a.0 d l (upper l v / 512) a.3) [
  | inl b ↦ inr (λ j. ap (λ (i : ℕ). s.stale i j v) b.1
      ∙ m.fresh j v a.1 a.2 (ap (λ (i : ℕ). upper i v / 512) (sym b.2) ∙ b.3)
      (ap (λ (i : ℕ). descriptor i (s.word t' (upper i v % 512))) (sym b.2)
      ∙ ap (λ (i : ℕ). descriptor l (s.word i (upper l v % 512))) (sym b.0)
      ∙ ap (descriptor l) (sym (set_beside s t c (suc h) q x m.place a.0 (upper l v % 512)
      (λ z. not_claimed s t c (suc h) q x m.place t' c h q m.was (sym b.0 ∙ z)))) ∙ a.4))
  | inr b ↦ elim (here? s t c (suc h) q x m.place a.0 d l (upper l v) b.1) [
    | inr z ↦ inl (a.0, a.1, a.2, b.1, ap (descriptor l) (sym z.1) ∙ a.4)
    | inl z ↦ absurd (next_not m.reads (ap (λ (i : ℕ). descriptor i x) (sym z.2) ∙ ap (descriptor l) (sym z.4) ∙ a.4))
  ]
]
leaf_back {s} k (enter t c h q x y r m) d v l a = elim (here? s t c h q x m.place a.0 d l (upper l v) a.3) [
  | inr z ↦ inl (a.0, a.1, a.2, a.3, ap (descriptor l) (sym z.1) ∙ a.4)
  | inl z ↦ inr (λ j. ap (λ (i : ℕ). s.stale i j v) z.1 ∙ m.fresh j v (ap (λ (i : ℕ). upper i v) (sym z.2) ∙ z.3))
]
leaf_back {s} k (clear t c h q x y r S j m) d v l a = elim (here? s t c h q x m.place a.0 d l (upper l v) a.3) [
  | inr z ↦ inl (a.0, a.1, a.2, a.3, ap (descriptor l) (sym z.1) ∙ a.4)
  | inl z ↦ absurd (no_output m.reads (ap (λ (i : ℕ). descriptor i x) (sym z.2) ∙ ap (descriptor l) (sym z.4) ∙ a.4))
]
leaf_back {s} k (unhook t t' c h q x S j W m) d v l a =
    let b = Unhook.was_table s t t' c h q x S j W m a.0 d l (upper l v / 512) a.3 in
    elim (here? s t c (suc h) q x m.place a.0 d l (upper l v) b) [
      | inr z ↦ inl (a.0, a.1, a.2, b, ap (descriptor l) (sym z.1) ∙ a.4)
      | inl z ↦ absurd (no_output m.reads (ap (λ (i : ℕ). descriptor i x) (sym z.2) ∙ ap (descriptor l) (sym z.4) ∙ a.4))
    ]
leaf_back {s} k (hand f g e z) d v l a =
    inl (a.0, a.1, a.2, kind_from s.kind f (page g) a.0 (table d l (upper l v / 512)) a.3 refl, a.4)
leaf_back k (lend f c how m) d v l a = inl a
leaf_back {s} k (retire P g W m) d v l a =
    inl (quiet_back s (λ f. cond (P f) (draining g) (s.kind f)) s.shared (λ f. cond (P f) W (s.waits f)) s.stale s.word
    (retire_tables s P g W m) d v l a)
leaf_back {s} k (release P m) d v l a =
    inl (quiet_back s (λ f. cond (P f) free (s.kind f)) s.shared s.waits s.stale s.word (release_tables s P m) d v l a)
leaf_back {s} k (open_space c n m) d v l a = elim (Open.new? s c n m a.0 d l (upper l v / 512) a.3) [
  | inl b ↦ absurd (no_output (Open.bare_root s c n m a.0 (upper l v) b.0)
      (ap (λ (i : ℕ). descriptor i (s.word a.0 (upper l v % 512))) (sym b.2) ∙ a.4))
  | inr b ↦ inl (a.0, a.1, a.2, b.1, a.4)
]
leaf_back k (end c S j e g w) d v l a = inl a
leaf_back {s} k (dissolve c n e) d v l a =
    inl (a.0, a.1, a.2, (Dissolve.from' s c n e a.0 (table d l (upper l v / 512)) a.3 refl).0, a.4)

-- a table of now was one before; or it is new: of a space that was not there, or below an entry whose range no slot has wholly
abbrev NewTable : (s : Spaces) (d h p : ℕ) → Type 0
NewTable s d h p =
    ((exists s d ≡ false) × ((j w : ℕ) → s.stale d j w ≡ false)) ⊎
    (((u : ℕ) × (s.kind u ≡ table d (suc h) (p / 512))) × ((j : ℕ) → ((w : ℕ) → upper (suc h) w ≡ p → s.stale d j w ≡ true) → ⊥))

pub table_back : {s s' : Spaces} (m : Move s s') (t d h p : ℕ) → s'.kind t ≡ table d h p → (s.kind t ≡ table d h p) ⊎ NewTable s d h p
table_back {s} (put f i x u) t d h p a = inl a
table_back {s} (claim u c n q m) t d h p a = inl (kind_from s.kind u (claimed c n q) t (table d h p) a refl)
table_back {s} (link u u' c n q x m) t d h p a = elim (Link.new? s u u' c n q x m t d h p a) [
  | inl b ↦ rw (b.1, b.2, b.3) (inr (inr ((u, m.place), m.whole)))
  | inr b ↦ inl b.1
]
table_back {s} (enter u c n q x y r m) t d h p a = inl a
table_back {s} (clear u c n q x y r S j m) t d h p a = inl a
table_back {s} (unhook u u' c n q x S j W m) t d h p a = inl (Unhook.was_table s u u' c n q x S j W m t d h p a)
table_back {s} (hand f g e z) t d h p a = inl (kind_from s.kind f (page g) t (table d h p) a refl)
table_back {s} (lend f c how m) t d h p a = inl a
table_back {s} (retire P g W m) t d h p a = inl ((retire_tables s P g W m).from t d h p a)
table_back {s} (release P m) t d h p a = inl ((release_tables s P m).from t d h p a)
table_back {s} (open_space c n m) t d h p a = elim (Open.new? s c n m t d h p a) [
  | inl b ↦ inr (inl (ap (exists s) b.1 ∙ m.new, λ j w. ap (λ (i : ℕ). s.stale i j w) b.1 ∙ m.clean j w))
  | inr b ↦ inl b.1
]
table_back {s} (end c S j e g w) t d h p a = inl a
table_back {s} (dissolve c n e) t d h p a = inl (Dissolve.from' s c n e t (table d h p) a refl).0

-- nothing of what is stale is cleared
pub stale_on : {s s' : Spaces} (m : Move s s') (d j v : ℕ) → s.stale d j v ≡ true → s'.stale d j v ≡ true
stale_on (put f i x u) d j v e = e
stale_on (claim u c n q m) d j v e = e
stale_on (link u u' c n q x m) d j v e = e
stale_on (enter u c n q x y r m) d j v e = e
stale_on {s} (clear u c n q x y r S i m) d j v e = grown s c S m.grows d j v e
stale_on {s} (unhook u u' c n q x S i W m) d j v e = grown s c S m.grows d j v e
stale_on (hand f g a z) d j v e = e
stale_on (lend f c how m) d j v e = e
stale_on (retire P g W m) d j v e = e
stale_on (release P m) d j v e = e
stale_on (open_space c n m) d j v e = e
stale_on {s} (end c S i a g w) d j v e = grown s c S g d j v e
stale_on (dissolve c n a) d j v e = e

pub gone_on : {s s' : Spaces} (m : Move s s') (d : ℕ) → Gone s d → Gone s' d
gone_on (put f i x u) d g = g
gone_on (claim u c n q m) d g = g
gone_on (link u u' c n q x m) d g = g
gone_on (enter u c n q x y r m) d g = g
gone_on {s} (clear u c n q x y r S i m) d g = λ l. let w = g l in (w.0, λ v. grown s c S m.grows d w.0 v (w.1 v))
gone_on {s} (unhook u u' c n q x S i W m) d g = λ l. let w = g l in (w.0, λ v. grown s c S m.grows d w.0 v (w.1 v))
gone_on (hand f o a z) d g = g
gone_on (lend f c how m) d g = g
gone_on (retire P o W m) d g = g
gone_on (release P m) d g = g
gone_on {s} (open_space c n m) d g = λ l. elim (eq? d c) [
  | inl i ↦ absurd (Open.nothing s c d m.new m.clean i g)
  | inr i ↦ g (ap (λ (z : Space). z.exists) (sym (Open.same s c n m d i)) ∙ l)
]
gone_on {s} (end c S i a w e) d g = End.gone' s c S i a w e d g
gone_on (dissolve c n a) d g = g

-- a leaf stays, or is cleared, or its space is dissolved
pub leaf_on : {s s' : Spaces} → Core s' → (m : Move s s') (d v l : ℕ) → LeafAt s d v l →
    LeafAt s' d v l ⊎ ((((l' : ℕ) → LeafAt s' d v l' → ⊥) × ((j : ℕ) × ((w : ℕ) → upper l w ≡ upper l v → s'.stale d j w ≡ true)) ×
    ((t h p : ℕ) → s'.kind t ≡ table d h p → s.kind t ≡ table d h p)) ⊎ ((exists s d ≡ false) × ((j w : ℕ) → s.stale d j w ≡ false)))
leaf_on {s} k (put f i x u) d v l a =
    inl (quiet_on s s.kind s.shared s.waits s.stale (upd2 s.word f i x) (put_tables s f i x u) d v l a)
leaf_on {s} k (claim t c h p m) d v l a =
    inl (quiet_on s (upd s.kind t (claimed c h p)) s.shared s.waits s.stale s.word
    (taken_tables s t (claimed c h p) m.was refl s.shared (λ t c n. refl)) d v l a)
leaf_on {s} k (link t t' c h q x m) d v l a = elim (here? s t c (suc h) q x m.place a.0 d l (upper l v) a.3) [
  | inr z ↦ inl (
    a.0,
    a.1,
    a.2,
    kind_keep s.kind t' (claimed c h q) (table c h q) m.was a.0 (table d l (upper l v / 512))
        a.3 refl,
    ap (descriptor l) z.1 ∙ a.4,
  )
  | inl z ↦ absurd (no_output m.empty (ap (λ (i : ℕ). descriptor i (s.word t (q % 512))) (sym z.2)
      ∙ ap (λ (i : ℕ). descriptor l (s.word t (i % 512))) (sym z.3)
      ∙ ap (λ (i : ℕ). descriptor l (s.word i (upper l v % 512))) (sym z.0) ∙ a.4))
]
leaf_on {s} k (enter t c h q x y r m) d v l a = elim (here? s t c h q x m.place a.0 d l (upper l v) a.3) [
  | inr z ↦ inl (a.0, a.1, a.2, a.3, ap (descriptor l) z.1 ∙ a.4)
  | inl z ↦ absurd (no_output m.empty (ap (λ (i : ℕ). descriptor i (s.word t (q % 512))) (sym z.2)
      ∙ ap (λ (i : ℕ). descriptor l (s.word t (i % 512))) (sym z.3)
      ∙ ap (λ (i : ℕ). descriptor l (s.word i (upper l v % 512))) (sym z.0) ∙ a.4))
]
leaf_on {s} {s'} k (clear t c h q x y r S j m) d v l a = elim (here? s t c h q x m.place a.0 d l (upper l v) a.3) [
  | inr z ↦ inl (a.0, a.1, a.2, a.3, ap (descriptor l) z.1 ∙ a.4)
  | inl z ↦
      let up : upper h v ≡ q = ap (λ (m : ℕ). upper m v) (sym z.2) ∙ z.3 in
      inr (inl (
        (λ l' b. no_leaf s' k c v h q t l' m.place
            (ap (descriptor h) (set_here s t c h q x m.place t (q % 512) refl refl) ∙ m.reads) up (rw z.1 at b)),
        (
          j,
          λ w e. ap (λ (n : ℕ → ℕ → Bool). n j w) (upd_at s.stale c S d z.1)
              ∙ m.marks w (ap (λ (n : ℕ). upper n w) (sym z.2) ∙ e ∙ z.3),
        ),
        (λ t h p b. b),
      ))
]
leaf_on {s} k (unhook t t' c h q x S j W m) d v l a = elim (here? s t c (suc h) q x m.place a.0 d l (upper l v) a.3) [
  | inr z ↦ inl (
    a.0,
    a.1,
    a.2,
    upd_other s.kind t' (emptied c h q) a.0 (λ (e : a.0 ≡ t').
        let o : table d l (upper l v / 512) ≡ table c h q = sym a.3 ∙ ap s.kind e ∙ m.was in
        let n= : l ≡ h = cc in
        no_output (m.bare (upper l v)) (ap (λ (i : ℕ). descriptor i (s.word t' (upper l v % 512))) (sym n=)
        ∙ ap (λ (i : ℕ). descriptor l (s.word i (upper l v % 512))) (sym e) ∙ a.4)) ∙ a.3,
    ap (descriptor l) z.1 ∙ a.4,
  )
  | inl z ↦ absurd (next_not m.leads (ap (λ (i : ℕ). descriptor i (s.word t (q % 512))) (sym z.2)
      ∙ ap (λ (i : ℕ). descriptor l (s.word t (i % 512))) (sym z.3)
      ∙ ap (λ (i : ℕ). descriptor l (s.word i (upper l v % 512))) (sym z.0) ∙ a.4))
]
leaf_on {s} k (hand f g e z) d v l a =
    inl (a.0, a.1, a.2, kind_keep s.kind f free (page g) e a.0 (table d l (upper l v / 512)) a.3 refl, a.4)
leaf_on k (lend f c how m) d v l a = inl a
leaf_on {s} k (retire P g W m) d v l a =
    inl (quiet_on s (λ f. cond (P f) (draining g) (s.kind f)) s.shared (λ f. cond (P f) W (s.waits f)) s.stale s.word
    (retire_tables s P g W m) d v l a)
leaf_on {s} k (release P m) d v l a =
    inl (quiet_on s (λ f. cond (P f) free (s.kind f)) s.shared s.waits s.stale s.word (release_tables s P m) d v l a)
leaf_on {s} k (open_space c n m) d v l a = inl (a.0, a.1, a.2, Open.keep s c n m a.0 (table d l (upper l v / 512)) a.3 refl, a.4)
leaf_on k (end c S j e g w) d v l a = inl a
leaf_on {s} k (dissolve c n e) d v l a = elim (eq? d c) [
  | inl p ↦ inr (inr (ap (exists s) p ∙ n, λ j w. ap (λ (i : ℕ). s.stale i j w) p ∙ e j w))
  | inr p ↦ inl (a.0, a.1, a.2, Dissolve.keep' s c n e a.0 (table d l (upper l v / 512)) a.3 (ne_eqb d c p), a.4)
]
