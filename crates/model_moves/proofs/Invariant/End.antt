-- end: a space is no longer, and everything of it is stale.
use mathlib.Core.Path.{◌≡◌, refl, sym, ap, ◌∙◌}
use mathlib.Core.Bool.{Bool, true, true≢false}
use mathlib.Core.Logic.{inl, inr}
use Prim.Native.Nat.{ℕ}
use Rattle.model.proofs.Laws.Base.{eq?, upd_at, upd_other}
use Rattle.model.specs.Base.{upd}
use Rattle.model_moves.specs.Spaces.{Spaces, Space, exists, with_space, with_stale}
use Rattle.model_moves.specs.Cache.{Caches}
use Rattle.model_moves.specs.Moves.{Grows, closed}
use Rattle.model_moves.proofs.Invariant.Core.{Bears, Gone}
use Rattle.model_moves.proofs.Invariant.Ledger.{Holds, PagesSame, may_keep, held_keep}
use Rattle.model_moves.proofs.Invariant.Entries.{grown, grown_back}

module _ (s : Spaces) (c : ℕ) (S : ℕ → ℕ → Bool) (j : ℕ) (live : exists s c ≡ true) (g : Grows s c S) (all : (v : ℕ) → S j v ≡ true) where
  abbrev ended : Spaces
  ended = with_space (with_stale s (upd s.stale c S)) (upd s.space c (closed (s.space c)))

  -- only whether it exists has changed
  field : (F : Space → ℕ) → F (closed (s.space c)) ≡ F (s.space c) → (d : ℕ) → F (ended.space d) ≡ F (s.space d)
  field F e d = elim (eq? d c) [
    | inl i ↦ ap F (upd_at s.space c (closed (s.space c)) d i) ∙ e ∙ ap (λ (i : ℕ). F (s.space i)) (sym i)
    | inr i ↦ ap F (upd_other s.space c (closed (s.space c)) d i)
  ]

  still : (d : ℕ) → exists ended d ≡ true → (d ≡ c → ⊥) × (exists s d ≡ true)
  still d l = elim (eq? d c) [
    | inl i ↦ absurd (true≢false (sym l ∙ ap (λ (z : Space). z.exists) (upd_at s.space c (closed (s.space c)) d i)))
    | inr i ↦ (i, ap (λ (z : Space). z.exists) (sym (upd_other s.space c (closed (s.space c)) d i)) ∙ l)
  ]

  end_pages : PagesSame s ended
  end_pages = record { pages = λ f g e. e; drains = λ f g e. e; shares_same = λ f g d e. refl; waits_more = λ f g d j e w. w }

  serves= : (d : ℕ) → (ended.space d).serves ≡ (s.space d).serves
  serves= = field (λ z. z.serves) refl

  end_bears : (d f r : ℕ) → Bears s d f r → Bears ended d f r
  end_bears d f r b = record {
    may = λ l. may_keep s ended end_pages d (serves= d) f r (b.may (still d l).1);
    held = λ l i w. elim (eq? d c) [
      | inl e ↦ inl (may_keep s ended end_pages d (serves= d) f r (b.may (ap (exists s) e ∙ live)))
      | inr e ↦ held_keep s ended end_pages d (serves= d) f r i
          (b.held (ap (λ (z : Space). z.exists) (sym (upd_other s.space c (closed (s.space c)) d e)) ∙ l) i
          (grown_back s c S g d i e w))
    ];
  }

  pub gone' : (d : ℕ) → Gone s d → Gone ended d
  gone' d a l = elim (eq? d c) [
    | inl e ↦ (j, λ v. ap (λ (z : ℕ → ℕ → Bool). z j v) (upd_at s.stale c S d e) ∙ all v)
    | inr e ↦ let w = a (ap (λ (z : Space). z.exists) (sym (upd_other s.space c (closed (s.space c)) d e)) ∙ l) in
        (w.0, λ v. grown s c S g d w.0 v (w.1 v))
  ]

  pub end_holds : (k : Caches) → Holds s k → Holds ended k
  end_holds k z = record {
    core = record {
      leaves = λ d v h t y r l e. let w = z.core.leaves d v h t y r l e in (w.0, w.1, end_bears d w.0 r w.2);
      nexts = z.core.nexts;
      alone = z.core.alone;
      bare = z.core.bare;
      roots = λ d p l e. rw (field (λ z. z.root) refl d, field (λ z. z.height) refl d)
          (z.core.roots d p (still d l).1 (rw (field (λ z. z.wide) refl d) at e));
      hangs = λ d h p t a. elim (z.core.hangs d h p t a) [
        | inl y ↦ inl (
          rw (field (λ z. z.height) refl d) y.0,
          rw (field (λ z. z.wide) refl d) y.1,
          rw (field (λ z. z.root) refl d) y.2,
        )
        | inr y ↦ inr (y.0, y.1, y.2, rw (field (λ z. z.height) refl d) y.3)
      ];
    };
    kept = record {
      table_ok = λ d h p x a. let w = z.kept.table_ok d h p x a in (
        w.0,
        w.1,
        elim w.2 [
          | inl e ↦ inl e
          | inr e ↦ let i = e.1 in inr (e.0, (i.0, i.1, λ v u. grown s c S g d i.0 v (i.2 v u)), e.2)
        ],
      );
      page_ok = λ d v x r a. let w = z.kept.page_ok d v x r a in (
        w.0,
        w.1,
        elim w.2 [
          | inl e ↦ inl e
          | inr e ↦ let i = e.1 in inr (
            e.0,
            (
              i.0,
              grown s c S g d i.0 v i.1,
              held_keep s ended end_pages d (serves= d) w.0 r i.0 i.2,
            ),
          )
        ],
      );
      one = z.kept.one;
      one_table = z.kept.one_table;
      table_gone = λ d h p x a. gone' d (z.kept.table_gone d h p x a);
      page_gone = λ d v x r a. gone' d (z.kept.page_gone d v x r a);
    };
  }
