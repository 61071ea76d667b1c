-- put, claim, hand, lend, retire, release: moves that leave every table as it is.
use mathlib.Core.Path.{◌≡◌, refl, sym, ap, ◌∙◌}
use mathlib.Core.Bool.{true, false, true≢false}
use mathlib.Core.Logic.{inl, inr}
use Prim.Native.Nat.{ℕ, ◌+◌, ◌/◌, ◌%◌}
use lib.Dec.{eqb}
use Rattle.model.proofs.Laws.Base.{eq?, upd_at, upd_other, upd_not, upd2_other}
use Rattle.model.specs.Base.{upd, upd2}
use Rattle.model.specs.Translate.{upper}
use Rattle.model.specs.Operations.{shares}
use Rattle.model.specs.Cache.{next, output, descriptor, inside}
use Rattle.model_moves.specs.Spaces.{Spaces, FrameUse, free, claimed, table, emptied, page, draining, exists, with_kind, with_shared, store, May, Laid, Everything}
use Rattle.model_moves.specs.Cache.{Caches}
use Rattle.model_moves.specs.Moves.{untabled, Claim}
use Rattle.model_moves.proofs.Invariant.Core.{use_number, clash, Core, Kept, Bears, Held}
use Rattle.model_moves.proofs.Invariant.Quiet.{other, TablesSame, quiet_core, quiet_core_with, quiet_kept}

pub record Holds (s : Spaces) (k : Caches) : Type 0 where
  pub core : Core s
  pub kept : Kept s k

-- frame f was x and becomes y: frames of another sort stay what they are
pub kind_keep : (kind : ℕ → FrameUse) (f : ℕ) (x y : FrameUse) → kind f ≡ x → (t : ℕ) (z : FrameUse) → kind t ≡ z →
    eqb (use_number x) (use_number z) ≡ false → upd kind f y t ≡ z
kind_keep kind f x y hf t z ht q =
    elim (eq? t f) [
      | inl p ↦ absurd (clash {x = x} {y = z} (sym hf ∙ ap kind (sym p) ∙ ht) q)
      | inr p ↦ upd_other kind f y t p ∙ ht
    ]

pub kind_from : (kind : ℕ → FrameUse) (f : ℕ) (y : FrameUse) (t : ℕ) (z : FrameUse) → upd kind f y t ≡ z →
    eqb (use_number y) (use_number z) ≡ false → kind t ≡ z
kind_from kind f y t z h q = (upd_not kind f y z t (λ e. clash {x = y} {y = z} e q) h).1

-- pages stay pages, and what drains waits for no less
pub record PagesSame (s s' : Spaces) : Type 0 where
  pub pages : (f g : ℕ) → s.kind f ≡ page g → s'.kind f ≡ page g
  pub drains : (f g : ℕ) → s.kind f ≡ draining g → s'.kind f ≡ draining g
  pub shares_same : (f g c : ℕ) → s.kind f ≡ page g → s'.shared f c ≡ s.shared f c
  pub waits_more : (f g c j : ℕ) → s.kind f ≡ draining g → s.waits f c j ≡ true → s'.waits f c j ≡ true

module _ (s s' : Spaces) (e : PagesSame s s') (c : ℕ) (serves : (s'.space c).serves ≡ (s.space c).serves) where
  pub may_keep : (f r : ℕ) → May s c f r → May s' c f r
  may_keep f r (inl a) = inl (e.pages f (s.space c).serves a ∙ ap page (sym serves))
  may_keep f r (inr a) = inr (a.0, e.pages f a.0 a.1, ap (λ (n : ℕ). shares n r) (e.shares_same f a.0 c a.1) ∙ a.2)

  pub held_keep : (f r j : ℕ) → Held s c f r j → Held s' c f r j
  held_keep f r j (inl a) = inl (may_keep f r a)
  held_keep f r j (inr a) =
      inr (e.drains f (s.space c).serves a.0 ∙ ap draining (sym serves), e.waits_more f (s.space c).serves c j a.0 a.1)

  pub bears_keep : exists s' c ≡ exists s c → ((j : ℕ) → Everything s' c j → Everything s c j) → (f r : ℕ) → Bears s c f r → Bears s' c f r
  bears_keep x y f r b = record {
    may = λ l. may_keep f r (b.may (sym x ∙ l));
    held = λ l j w. held_keep f r j (b.held (sym x ∙ l) j (y j w));
  }

-- put, and a guest's store
module _ (s : Spaces) (f i x : ℕ) (u : untabled (s.kind f) ≡ true) where
  apart : (t j : ℕ) (y : FrameUse) → s.kind t ≡ y → untabled y ≡ false → upd2 s.word f i x t j ≡ s.word t j
  apart t j y e n =
      upd2_other s.word f i x t j (λ (p : t ≡ f) z. true≢false
      (sym u ∙ ap (λ (m : ℕ). untabled (s.kind m)) (sym p) ∙ ap untabled e ∙ n))

  pub put_tables : TablesSame s s.kind s.shared s.waits s.stale (upd2 s.word f i x)
  put_tables = record { from = λ t c h p e. e; to = λ t c h p e. e; words = λ t c h p j e. apart t j (table c h p) e refl }

  pub put_holds : (k : Caches) → Holds s k → Holds (store s f i x) k
  put_holds k y = record {
    core = quiet_core s s.kind s.shared s.waits s.stale (upd2 s.word f i x) put_tables y.core (record {
      claims = λ t c h p e j. (e, apart t j (claimed c h p) e refl);
      empties = λ t c h p e j. (e, apart t j (emptied c h p) e refl);
      bears = λ c f r w b. record { may = b.may; held = b.held };
    });
    kept =
        quiet_kept s s.kind s.shared s.waits (upd2 s.word f i x) put_tables (λ t c h p j a b. (a, b)) (λ c v f r j a b. b) k
        y.kept;
  }

-- a free frame becomes something
module _ (s : Spaces) (f : ℕ) (y : FrameUse) (hf : s.kind f ≡ free) (not_IsTable : eqb (use_number y) 3 ≡ false) (sh : ℕ → ℕ → ℕ)
    (sh_same : (t c : ℕ) → (t ≡ f → ⊥) → sh t c ≡ s.shared t c) where
  abbrev s' : Spaces
  s' = other s (upd s.kind f y) sh s.waits s.stale s.word

  pub taken_tables : TablesSame s (upd s.kind f y) sh s.waits s.stale s.word
  taken_tables = record {
    from = λ t c h p e. kind_from s.kind f y t (table c h p) e not_IsTable;
    to = λ t c h p e. kind_keep s.kind f free y hf t (table c h p) e refl;
    words = λ t c h p j e. refl;
  }

  taken_pages : PagesSame s s'
  taken_pages = record {
    pages = λ t g e. kind_keep s.kind f free y hf t (page g) e refl;
    drains = λ t g e. kind_keep s.kind f free y hf t (draining g) e refl;
    shares_same = λ t g c e. sh_same t c (λ (p : t ≡ f). clash {x = free} {y = page g} (sym hf ∙ ap s.kind (sym p) ∙ e) refl);
    waits_more = λ t g c j e w. w;
  }

  taken_kept : (k : Caches) → Kept s k → Kept s' k
  taken_kept k q =
      quiet_kept s (upd s.kind f y) sh s.waits s.word taken_tables
      (λ t c h p j a b. (kind_keep s.kind f free y hf t (emptied c h p) a refl, b))
      (λ c v f r j a b. held_keep s s' taken_pages c refl f r j b) k q

  taken_bears : (c f r : ℕ) → Bears s c f r → Bears s' c f r
  taken_bears c f r b = bears_keep s s' taken_pages c refl refl (λ j w. w) f r b

  taken_core : eqb (use_number y) 2 ≡ false → eqb (use_number y) 4 ≡ false → Core s → Core s'
  taken_core n2 n4 c = quiet_core s (upd s.kind f y) sh s.waits s.stale s.word taken_tables c (record {
    claims = λ t c h p e j. (kind_from s.kind f y t (claimed c h p) e n2, refl);
    empties = λ t c h p e j. (kind_from s.kind f y t (emptied c h p) e n4, refl);
    bears = λ c f r w b. taken_bears c f r b;
  })

pub hand_holds : (s : Spaces) (k : Caches) (f g : ℕ) → s.kind f ≡ free → Holds s k →
    Holds (with_shared (with_kind s (upd s.kind f (page g))) (upd s.shared f (λ c. 0))) k
hand_holds s k f g hf y = record {
  core = taken_core s f (page g) hf refl sh same refl refl y.core;
  kept = taken_kept s f (page g) hf refl sh same k y.kept;
}
  where
    sh : ℕ → ℕ → ℕ
    sh = upd s.shared f (λ c. 0)

    same : (t c : ℕ) → (t ≡ f → ⊥) → sh t c ≡ s.shared t c
    same t c n = ap (λ (z : ℕ → ℕ). z c) (upd_other s.shared f (λ c. 0) t n)

module _ (s : Spaces) (t c h p : ℕ) (m : Claim s t c h p) where
  abbrev kind' : ℕ → FrameUse
  kind' = upd s.kind t (claimed c h p)

  pub claim_holds : (k : Caches) → Holds s k → Holds (with_kind s kind') k
  claim_holds k y = record {
    core =
        quiet_core_with s kind' s.shared s.waits s.stale s.word
        (taken_tables s t (claimed c h p) m.was refl s.shared (λ f c n. refl)) y.core leaf none
        (λ t' c' h' p' e i. (kind_from s.kind t (claimed c h p) t' (emptied c' h' p') e refl, refl));
    kept = taken_kept s t (claimed c h p) m.was refl s.shared (λ f c n. refl) k y.kept;
  }
    where
      bears : (c f r : ℕ) → Bears s c f r → Bears (with_kind s kind') c f r
      bears = taken_bears s t (claimed c h p) m.was refl s.shared (λ f c n. refl)

      new : (v y r : ℕ) → upper h v / 512 ≡ p → descriptor h (s.word t (upper h v % 512)) ≡ output y r →
          (f : ℕ) × (inside h y v ≡ s.first + f) × Bears (with_kind s kind') c f r
      new v y r a d = let x = m.leaf v y r a d in (x.0, x.1, bears c x.0 r (record { may = λ l. x.2; held = λ l j w. inl x.2 }))

      leaf : (c' v h' t' z r : ℕ) → Laid (with_kind s kind') c' h' (upper h' v / 512) t' →
          descriptor h' (s.word t' (upper h' v % 512)) ≡ output z r →
          (f : ℕ) × (inside h' z v ≡ s.first + f) × Bears (with_kind s kind') c' f r
      leaf c' v h' t' z r (inl a) d =
          let x = y.core.leaves c' v h' t' z r (inl
          (kind_from s.kind t (claimed c h p) t' (table c' h' (upper h' v / 512)) a refl)) d in
          (x.0, x.1, bears c' x.0 r x.2)
      leaf c' v h' t' z r (inr a) d = elim (eq? t' t) [
        | inr n ↦ let x = y.core.leaves c' v h' t' z r (inr (sym (upd_other s.kind t (claimed c h p) t' n) ∙ a)) d in
            (x.0, x.1, bears c' x.0 r x.2)
        | inl n ↦
            let b : claimed c h p ≡ claimed c' h' (upper h' v / 512) = sym (upd_at s.kind t (claimed c h p) t' n) ∙ a in
            let c= : c' ≡ c = cc in let h= : h' ≡ h = cc in let p= : p ≡ upper h' v / 512 = cc in
            rw (c=, h=) (new v z r (ap (λ (n : ℕ). upper n v / 512) (sym h=) ∙ sym p=)
            (ap (λ (n : ℕ). descriptor n (s.word t (upper n v % 512))) (sym h=)
            ∙ ap (λ (n : ℕ). descriptor h' (s.word n (upper h' v % 512))) (sym n) ∙ d))
      ]

      none : (t' c' h' p' i z : ℕ) → kind' t' ≡ claimed c' h' p' → descriptor h' (s.word t' (i % 512)) ≡ next z → ⊥
      none t' c' h' p' i z a d = elim (eq? t' t) [
        | inr n ↦ y.core.alone t' c' h' p' i z (sym (upd_other s.kind t (claimed c h p) t' n) ∙ a) d
        | inl n ↦
            let b : claimed c h p ≡ claimed c' h' p' = sym (upd_at s.kind t (claimed c h p) t' n) ∙ a in
            let h= : h' ≡ h = cc in
            m.no_table i z (ap (λ (n : ℕ). descriptor n (s.word t (i % 512))) (sym h=)
            ∙ ap (λ (n : ℕ). descriptor h' (s.word n (i % 512))) (sym n) ∙ d)
      ]

-- nothing is shared by a share of 0
pub shares_none : (r : ℕ) → shares 0 r ≡ true → ⊥
unfolding shares
shares_none r e = true≢false (sym e)
