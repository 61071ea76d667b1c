-- From the invariant's words to the theorems'.
use mathlib.Core.Path.{◌≡◌, refl, sym, ap, ◌∙◌}
use mathlib.Core.Bool.{true, false, true≢false, ◌&&◌, ◌||◌}
use mathlib.Core.Logic.{◌⊎◌, inl, inr}
use Prim.Native.Nat.{ℕ, suc, ◌+◌, ◌≤◌, ◌/◌, ◌%◌}
use native.Mathlib.Omega.{arith}
use lib.Dec.{eqb, ltb, leb}
use borrow.Author.Tests.{eqb-true, ltb-true, le-leb, le-ltb}
use Rattle.model.proofs.Laws.Base.{eq?, and_true, upd2_other}
use Rattle.model.specs.Operations.{shares}
use Rattle.model.specs.Cache.{Access, reading, writing, executing, grants}
use Rattle.model.specs.Terms.{lends}
use Rattle.model_moves.specs.Spaces.{Spaces, FrameUse, monitor, free, claimed, table, emptied, page, draining}
use Rattle.model_moves.specs.Cache.{Reach}
use Rattle.model_moves.specs.Moves.{untabled, Move, put, claim, link, enter, clear, unhook, hand, lend, retire, release, open_space, end, dissolve}
use Rattle.model_moves.specs.Machine.{Machine, Step, moves, reports, looks, stores}
use Rattle.model_moves.proofs.Invariant.Core.{use_number, clash}
use Rattle.model_moves.proofs.Invariant.Holds.{Belongs, belongs_at, Good, store_frame}
use Rattle.model_moves.specs.Terms.{Start, Reaches, Allowed, HostMove, HostStores, StoresBy, Hidden}

lends_is : (how r : ℕ) (w : Access) → shares how r ≡ true → grants r w ≡ true → lends how w ≡ true
unfolding shares
lends_is how r reading e q =
    let a = ltb-true 0 how (and_true (ltb 0 how) (ltb r 4) (and_true (ltb 0 how && ltb r 4) (ltb r 2 || leb 2 how) e).0).0 in
    le-leb 1 how (omega arith)
lends_is how r writing e q =
    let a = eqb-true (r / 2 % 2) 1 q in
    let b : 2 ≤ r = omega arith in
    rw (le-ltb r 2 b) at (and_true (ltb 0 how && ltb r 4) (ltb r 2 || leb 2 how) e).1
lends_is how r executing e q =
    let a = eqb-true (r / 4 % 2) 1 q in
    let b = ltb-true r 4 (and_true (ltb 0 how) (ltb r 4) (and_true (ltb 0 how && ltb r 4) (ltb r 2 || leb 2 how) e).0).1 in
    absurd (omega arith)

pub belongs_allowed : (s : Spaces) (c f r : ℕ) (w : Access) → grants r w ≡ true → Belongs s c f r → Allowed s c f w
belongs_allowed s c f r w q (inl (inl a)) = inl a
belongs_allowed s c f r w q (inl (inr a)) = inr (inl (a.0, a.1, lends_is (s.shared f c) r w a.2 q))
belongs_allowed s c f r w q (inr a) = inr (inr a)

pub reach_allowed : {m : Machine} → Good m → (c : ℕ) (w : Access) (a f : ℕ) → a / 4096 ≡ m.spaces.first + f → Reaches m c w a →
    Allowed m.spaces c f w
unfolding Reach
reach_allowed {m} y c w a f e x = belongs_allowed m.spaces c f x.1 w x.3 (belongs_at m.spaces m.caches y x.2 f e)

pub not_belongs : (s : Spaces) (c f r : ℕ) (x : FrameUse) → s.kind f ≡ x → eqb 5 (use_number x) ≡ false → eqb 6 (use_number x) ≡ false →
    Belongs s c f r → ⊥
not_belongs s c f r x e a b (inl (inl h)) = clash {x = page (s.space c).serves} {y = x} (sym h ∙ e) a
not_belongs s c f r x e a b (inl (inr h)) = clash {x = page h.0} {y = x} (sym h.1 ∙ e) a
not_belongs s c f r x e a b (inr h) = clash {x = draining (s.space c).serves} {y = x} (sym h.0 ∙ e) b

pub not_allowed : (s : Spaces) (c f : ℕ) (w : Access) (x : FrameUse) → s.kind f ≡ x → eqb 5 (use_number x) ≡ false →
    eqb 6 (use_number x) ≡ false → Allowed s c f w → ⊥
not_allowed s c f w x e a b (inl h) = clash {x = page (s.space c).serves} {y = x} (sym h ∙ e) a
not_allowed s c f w x e a b (inr (inl h)) = clash {x = page h.0} {y = x} (sym h.1 ∙ e) a
not_allowed s c f w x e a b (inr (inr h)) = clash {x = draining (s.space c).serves} {y = x} (sym h.0 ∙ e) b

-- a page of o, that is somebody's who may use it so
pub page_allowed : (s : Spaces) (o c f : ℕ) (w : Access) → s.kind f ≡ page o → Allowed s c f w →
    (o ≡ (s.space c).serves) ⊎ (lends (s.shared f c) w ≡ true)
page_allowed s o c f w k (inl a) = inl (same_page (sym k ∙ a))
  where
    same_page : {g h : ℕ} → page g ≡ page h → g ≡ h
    same_page {g} {h} e = cc
page_allowed s o c f w k (inr (inl a)) = inr a.2
page_allowed s o c f w k (inr (inr a)) = absurd (clash {x = page o} {y = draining (s.space c).serves} (sym k ∙ a.0) refl)

-- two spaces that serve different guests
pub both_allowed : (s : Spaces) (c d f : ℕ) (w w' : Access) → ((s.space c).serves ≡ (s.space d).serves → ⊥) → Allowed s c f w →
    Allowed s d f w' →
    (o : ℕ) × (s.kind f ≡ page o) × ((o ≡ (s.space c).serves) ⊎ (lends (s.shared f c) w ≡ true)) ×
    ((o ≡ (s.space d).serves) ⊎ (lends (s.shared f d) w' ≡ true))
both_allowed s c d f w w' ne (inl a) (inl b) = absurd (ne (same_page (sym a ∙ b)))
  where
    same_page : {g h : ℕ} → page g ≡ page h → g ≡ h
    same_page {g} {h} e = cc
both_allowed s c d f w w' ne (inl a) (inr (inl b)) = ((s.space c).serves, a, inl refl, inr b.2)
both_allowed s c d f w w' ne (inl a) (inr (inr b)) =
    absurd (clash {x = page (s.space c).serves} {y = draining (s.space d).serves} (sym a ∙ b.0) refl)
both_allowed s c d f w w' ne (inr (inl a)) (inl b) = ((s.space d).serves, b, inr a.2, inl refl)
both_allowed s c d f w w' ne (inr (inl a)) (inr (inl b)) = (a.0, a.1, inr a.2, inr b.2)
both_allowed s c d f w w' ne (inr (inl a)) (inr (inr b)) =
    absurd (clash {x = page a.0} {y = draining (s.space d).serves} (sym a.1 ∙ b.0) refl)
both_allowed s c d f w w' ne (inr (inr a)) (inl b) =
    absurd (clash {x = draining (s.space c).serves} {y = page (s.space d).serves} (sym a.0 ∙ b) refl)
both_allowed s c d f w w' ne (inr (inr a)) (inr (inl b)) =
    absurd (clash {x = draining (s.space c).serves} {y = page b.0} (sym a.0 ∙ b.1) refl)
both_allowed s c d f w w' ne (inr (inr a)) (inr (inr b)) = absurd (ne (same_drain (sym a.0 ∙ b.0)))
  where
    same_drain : {g h : ℕ} → draining g ≡ draining h → g ≡ h
    same_drain {g} {h} e = cc

pub tabled_not : (s : Spaces) (a t : ℕ) (y : FrameUse) → untabled (s.kind a) ≡ true → a ≡ t → s.kind t ≡ y → untabled y ≡ false → ⊥
tabled_not s a t y e z p n = true≢false (sym e ∙ ap (λ (n : ℕ). untabled (s.kind n)) z ∙ ap untabled p ∙ n)

-- a move changes a word of a page only by the host's store
pub page_words : {s s' : Spaces} (m : Move s s') (f i : ℕ) → untabled (s.kind f) ≡ true → (s'.word f i ≡ s.word f i) ⊎ HostMove m f
page_words {s} (put f i x u) a n e = elim (eq? f a) [ inl p ↦ inr p | inr p ↦ inl (upd2_other s.word f i x a n (λ z w. p (sym z))) ]
page_words (claim t c h p m) a n e = inl refl
page_words {s} (link t t' c h q x m) a n e =
    inl (upd2_other s.word t (q % 512) x a n (λ z w. tabled_not s a t (table c (suc h) (q / 512)) e z m.place refl))
page_words {s} (enter t c h q x y r m) a n e =
    inl (upd2_other s.word t (q % 512) x a n (λ z w. tabled_not s a t (table c h (q / 512)) e z m.place refl))
page_words {s} (clear t c h q x y r S j m) a n e =
    inl (upd2_other s.word t (q % 512) x a n (λ z w. tabled_not s a t (table c h (q / 512)) e z m.place refl))
page_words {s} (unhook t t' c h q x S j W m) a n e =
    inl (upd2_other s.word t (q % 512) x a n (λ z w. tabled_not s a t (table c (suc h) (q / 512)) e z m.place refl))
page_words (hand f g e z) a n k = inl refl
page_words (lend f c how m) a n e = inl refl
page_words (retire P g W m) a n e = inl refl
page_words (release P m) a n e = inl refl
page_words (open_space c k m) a n e = inl refl
page_words (end c S j l g z) a n e = inl refl
page_words (dissolve c l z) a n e = inl refl

pub start_good : {m : Machine} → Start m → Good m
start_good {m} x = record {
  core = record {
    leaves = λ c v h t y r l e. elim l [
      | inl a ↦ absurd (neither t (table c h _) a refl refl)
      | inr a ↦ absurd
          (neither t (claimed c h _) a refl refl)
    ];
    nexts = λ c h q t y a e. absurd (neither t (table c (suc h) (q / 512)) a refl refl);
    alone = λ t c h p i y a e. neither t (claimed c h p) a refl refl;
    bare = λ t c h p i a. absurd (neither t (emptied c h p) a refl refl);
    roots = λ c p l e. absurd (true≢false (sym l ∙ x.spaces c));
    hangs = λ c h p t a. absurd (neither t (table c h p) a refl refl);
  };
  kept = record {
    table_ok = λ c h p z a. absurd (x.tables c h p z a);
    page_ok = λ c v z r a. absurd (x.pages c v z r a);
    one_table = λ c h p z z' a b. absurd (x.tables c h p z a);
    one = λ c v z r z' r' a b. absurd (x.pages c v z r a);
    table_gone = λ c h p z a. absurd (x.tables c h p z a);
    page_gone = λ c v z r a. absurd (x.pages c v z r a);
  };
}
  where
    neither : (t : ℕ) (y : FrameUse) → m.spaces.kind t ≡ y → eqb 0 (use_number y) ≡ false → eqb 1 (use_number y) ≡ false → ⊥
    neither t y e a b = elim (x.frames t) [
      | inl z ↦ clash {x = monitor} {y = y} (sym z ∙ e) a
      | inr z ↦ clash {x = free} {y = y}
          (sym z ∙ e) b
    ]

pub kept_words : {z z' : Machine} → Good z → (t : Step z z') (f g i : ℕ) → z.spaces.kind f ≡ page g →
    (z'.spaces.word f i ≡ z.spaces.word f i) ⊎ (HostStores t f ⊎ ((c : ℕ) × StoresBy t c f × Allowed z.spaces c f writing))
kept_words y (moves s a) f g i e = elim (page_words a f i (ap untabled e)) [ inl b ↦ inl b | inr b ↦ inr (inl b) ]
kept_words y (reports c R D p) f g i e = inl refl
kept_words y (looks k l) f g i e = inl refl
kept_words {z} y (stores c f' o b l a) f g i e = elim (eq? f f') [
  | inr n ↦ inl (upd2_other z.spaces.word f' (o / 8) _ f i (λ p q. n p))
  | inl p ↦
      let w = store_frame z y c f' o l a in
      inr (inr (c, (refl, sym p), belongs_allowed z.spaces c f w.0 writing w.2 (rw p w.1)))
]

pub hidden_not : (s : Spaces) (c f : ℕ) (w : Access) (x : FrameUse) → s.kind f ≡ x → Hidden x → Allowed s c f w → ⊥
hidden_not s c f w monitor e h a = not_allowed s c f w monitor e refl refl a
hidden_not s c f w free e h a = not_allowed s c f w free e refl refl a
hidden_not s c f w (claimed d n p) e h a = not_allowed s c f w (claimed d n p) e refl refl a
hidden_not s c f w (table d n p) e h a = not_allowed s c f w (table d n p) e refl refl a
hidden_not s c f w (emptied d n p) e h a = not_allowed s c f w (emptied d n p) e refl refl a
hidden_not s c f w (page g) e h a = absurd h
hidden_not s c f w (draining g) e h a = absurd h
