-- clear: a leaf becomes empty, and what it served is stale.
use mathlib.Core.Path.{◌≡◌, refl, sym, ap, ◌∙◌}
use mathlib.Core.Bool.{Bool, true≢false}
use mathlib.Core.Logic.{◌⊎◌, inl, inr}
use Prim.Native.Nat.{ℕ, ◌%◌}
use Rattle.model.proofs.Laws.Base.{eq?, upd_at}
use Rattle.model.specs.Base.{upd}
use Rattle.model.specs.Translate.{upper}
use Rattle.model.specs.Cache.{descriptor, inside}
use Rattle.model_moves.specs.Spaces.{Spaces, exists, with_stale, store, Leads}
use Rattle.model_moves.specs.Cache.{Caches}
use Rattle.model_moves.specs.Moves.{Clear}
use Rattle.model_moves.proofs.Invariant.Core.{Core, Bears, Old, next_not, no_next, no_output, no_way}
use Rattle.model_moves.proofs.Invariant.Ledger.{Holds}
use Rattle.model_moves.proofs.Invariant.Entries.{grown, set_here, same_frame, set_leads, grown_back, set_core, leads_new, here?}

module _ (s : Spaces) (t c h q x y r : ℕ) (S : ℕ → ℕ → Bool) (j : ℕ) (m : Clear s t c h q x y r S j) where
  abbrev pub cleared : Spaces
  cleared = with_stale (store s t (q % 512) x) (upd s.stale c S)

  -- c exists, and of other spaces no more is stale
  clear_bears : (c f r : ℕ) → Bears s c f r → Bears cleared c f r
  clear_bears c' f r b = record {
    may = b.may;
    held = λ l i w. elim (eq? c' c) [
      | inl p ↦ absurd (true≢false (sym m.live ∙ ap (exists s) (sym p) ∙ l))
      | inr p ↦ b.held l i (grown_back s c S m.grows c' i p w)
    ];
  }

  pub clear_core : Core s → Core cleared
  clear_core k =
      set_core s t c h q x m.place (upd s.stale c S) k clear_bears (λ z e. next_not e m.leaf) (λ z e. no_next m.reads e)
      (λ v y' r' u d. absurd (no_output m.reads d))

  pub clear_led : (c' v f r : ℕ) → Leads cleared c' v f r → Leads s c' v f r
  clear_led c' v f r a = elim (leads_new s t c h q x m.place c' v f r a) [
    | inl o ↦ o
    | inr o ↦ let e = o.2 in
        absurd (no_output m.reads e.1)
  ]

  clear_page : Core s → (c' v f r : ℕ) → (Leads s c' v f r ⊎ Old s c' v f r) → (Leads cleared c' v f r ⊎ Old cleared c' v f r)
  clear_page k c' v f r (inr w) =
      let i = w.1 in inr (λ f'' r'' l. w.0 f'' r'' (clear_led c' v f'' r'' l), (i.0, grown s c S m.grows c' i.0 v i.1, i.2))
  clear_page k c' v f r (inl a) = let u = a.3 in elim (here? s t c h q x m.place a.1 c' a.0 (upper a.0 v) a.2) [
    | inr z ↦ inl (set_leads s t c h q x m.place c' v a.0 a.1 f r a.2 z.1 u)
    | inl z ↦
        let up : upper h v ≡ q = ap (λ (m : ℕ). upper m v) (sym z.2) ∙ z.3 in
        let n = k.leaves c' v a.0 a.1 u.0 r (inl a.2) u.1 in
        let e1 = u.2 in let e2 = n.1 in
        let f= : n.0 ≡ f = same_frame s.first n.0 f (inside a.0 u.0 v) e2 e1 in
        inr (
          (λ f'' r'' l. no_way cleared (clear_core k) c v h q t f'' r'' m.place
              (ap (descriptor h) (set_here s t c h q x m.place t (q % 512) refl refl) ∙ m.reads) up (rw z.1 at l)),
          (
            j,
            ap (λ (d : ℕ → ℕ → Bool). d j v) (upd_at s.stale c S c' z.1) ∙ m.marks v up,
            inl (rw f= at (n.2.may (ap (exists s) z.1 ∙ m.live))),
          ),
        )
  ]

  pub clear_holds : (k : Caches) → Holds s k → Holds cleared k
  clear_holds k z = record {
    core = clear_core z.core;
    kept = record {
      table_ok = λ c' h' p a b. let n = z.kept.table_ok c' h' p a b in (
        n.0,
        n.1,
        elim n.2 [
          | inl w ↦ inl w
          | inr w ↦ let i = w.1 in inr (w.0, (i.0, i.1, λ v u. grown s c S m.grows c' i.0 v (i.2 v u)), w.2)
        ],
      );
      page_ok = λ c' v a r' b. let n = z.kept.page_ok c' v a r' b in (n.0, n.1, clear_page z.core c' v n.0 r' n.2);
      one = z.kept.one;
      one_table = z.kept.one_table;
      table_gone = λ c' h' p a b l. let n = z.kept.table_gone c' h' p a b l in (n.0, λ v. grown s c S m.grows c' n.0 v (n.1 v));
      page_gone = λ c' v a r' b l. let n = z.kept.page_gone c' v a r' b l in (n.0, λ v. grown s c S m.grows c' n.0 v (n.1 v));
    };
  }
