-- Both computers: what was found on the one corresponds to what was found on the other.
use mathlib.Core.Path.{◌≡◌, refl, sym, ap, ◌∙◌}
use mathlib.Core.Bool.{Bool, true}
use mathlib.Core.Logic.{inl, inr}
use Prim.Native.Nat.{ℕ, suc, ◌+◌, ◌/◌, ◌%◌}
use Rattle.model.proofs.Laws.Base.{upd_same}
use Rattle.model.specs.Translate.{upper}
use Rattle.model.specs.Cache.{output, descriptor, inside}
use Rattle.model_moves.specs.Spaces.{Spaces, table, exists, store, Says, Leads}
use Rattle.model_moves.specs.Cache.{forget}
use Rattle.model_moves.specs.Moves.{Link, Enter, Clear, reported}
use Rattle.model_moves.specs.Machine.{Machine, with_spaces}
use Rattle.model_two_computers.specs.Terms.{Frames}
use Rattle.model_moves.proofs.Invariant.Core.{Core, output_same, no_output, no_way}
use Rattle.model_moves.proofs.Invariant.Entries.{same_frame, here?, set_here, set_beside, not_claimed, set_leads, still_leads, leads_new}
use Rattle.model_moves.proofs.Invariant.Clear.{cleared, clear_core, clear_led}
use Rattle.model_moves.proofs.Invariant.Link.{linked, link_leads, linked_new}
use Rattle.model_two_computers.proofs.Side.{fade, Side, grow, Stays, Ghost}

-- both computers: what was found on the one corresponds to what was found on the other, and where its tables still say it, so do the
-- other's
pub record Half (c : ℕ) (R : Frames) (G G' : Ghost) (y z : Machine) : Type 0 where
  pub at : (v x r : ℕ) → G v x r →
      (f f' : ℕ) × (x ≡ y.spaces.first + f) × R f f' × G' v (z.spaces.first + f') r ×
      (Leads y.spaces c v f r → Leads z.spaces c v f' r)

abbrev pub flip : Frames → Frames
flip R f' f = R f f'

pub half_first : {c : ℕ} {R : Frames} {G G' : Ghost} {y y₁ z : Machine} → Stays c G y y₁ → Half c R G G' y z → Half c R G G' y₁ z
half_first st H = record {
  at = λ v x r g. let a = H.at v x r g in
      (a.0, a.1, a.2 ∙ ap (λ (i : ℕ). i + a.0) (sym st.first), a.3, a.4, λ l. a.5 (st.from v a.0 r l));
}

pub half_second : {c : ℕ} {R : Frames} {G G' : Ghost} {y z z₁ : Machine} → Stays c G' z z₁ → Half c R G G' y z → Half c R G G' y z₁
half_second st H = record {
  at = λ v x r g. let a = H.at v x r g in
      (a.0, a.1, a.2, a.3, rw st.first a.4, λ l. st.to v a.1 r (a.5 l));
}

pub grow_half : {c : ℕ} {R : Frames} {G G' : Ghost} {y z : Machine} (s w : Spaces) → s.first ≡ y.spaces.first →
    w.first ≡ z.spaces.first → ((f a b : ℕ) → R f a → R f b → a ≡ b) →
    ((v f r : ℕ) → Leads s c v f r → (f' : ℕ) × R f f' × Leads w c v f' r) → Half c R G G' y z →
    Half c R (grow c s G) (grow c w G') (with_spaces y s) (with_spaces z w)
grow_half {c} {R} {G} {G'} {y} {z} s w e e' one m H = record { at = go }
  where
    go : (v x r : ℕ) → grow c s G v x r → (f f' : ℕ) × (x ≡ s.first + f) × R f f' × grow c w G' v (w.first + f') r ×
        (Leads s c v f r → Leads w c v f' r)
    go v x r (inr a) = let b = m v a.0 r a.2 in (a.0, b.0, a.1, b.1, inr (b.0, refl, b.2), λ l. b.2)
    go v x r (inl g) =
        let a = H.at v x r g in (
          a.0,
          a.1,
          a.2 ∙ ap (λ (i : ℕ). i + a.0) (sym e),
          a.3,
          inl (rw e' a.4),
          λ l. let b = m v a.0 r l in let f= : b.0 ≡ a.1 = one a.0 b.0 a.1 b.1 a.3 in rw f= at b.2,
        )

-- c exists: what its tables lead to
module _ (c : ℕ) (R : Frames) (G G' : Ghost) (y z : Machine) (S : Side c G y) (H : Half c R G G' y z)
    (live : exists y.spaces c ≡ true) where
  abbrev s : Spaces
  s = y.spaces

  abbrev w : Spaces
  w = z.spaces

  pub base : (v f r : ℕ) → Leads s c v f r → (f' : ℕ) × R f f' × Leads w c v f' r
  base v f r l =
      let a = H.at v (s.first + f) r (S.led_in (inl live) v f r l) in
      let f= : a.0 ≡ f = same_frame s.first a.0 f (s.first + f) a.2 refl in
      (a.1, rw f= at a.3, a.5 (rw f= l))

  pub entered_leads : (t t' h q x x' b b' r : ℕ) → Enter s t c h q x b r → Enter w t' c h q x' b' r →
      ((v f f' : ℕ) → upper h v ≡ q → inside h b v ≡ s.first + f → inside h b' v ≡ w.first + f' → R f f') →
      (v f d : ℕ) → Leads (store s t (q % 512) x) c v f d → (f' : ℕ) × R f f' × Leads (store w t' (q % 512) x') c v f' d
  entered_leads t t' h q x x' b b' r m n pairs v f d l = elim (leads_new s t c h q x m.place c v f d l) [
    | inl o ↦ let i = base v f d o in (
      i.0,
      i.1,
      still_leads w t' c h q x' n.place (λ y r o. no_output n.empty o) c v i.0 d i.2,
    )
    | inr o ↦
        let i = o.2 in
        let p = output_same m.reads i.1 in
        let g = n.may v o.1 in
        let k : w.kind t' ≡ table c h (upper h v / 512) = rw (← o.1) at n.place in (
          g.0,
          pairs v f g.0 o.1 (ap (λ (j : ℕ). inside h j v) p.0 ∙ i.2) g.1,
          (
            h,
            t',
            k,
            (
              b',
              ap (descriptor h) (set_here w t' c h q x' n.place t' (upper h v % 512) refl (ap (λ (j : ℕ). j % 512) o.1)) ∙ n.reads
                  ∙ ap (output b') p.1,
              g.1,
            ),
          ),
        )
  ]

  pub cleared_leads : (t t' h q x x' b r b' r' : ℕ) (S S' : ℕ → ℕ → Bool) (j j' : ℕ) (m : Clear s t c h q x b r S j)
      (n : Clear w t' c h q x' b' r' S' j') → Core s → (v f d : ℕ) →
      Leads (cleared s t c h q x b r S j m) c v f d → (f' : ℕ) × R f f' × Leads (cleared w t' c h q x' b' r' S' j' n) c v f' d
  cleared_leads t t' h q x x' b r b' r' S S' j j' m n k v f d l =
      let a = base v f d (clear_led s t c h q x b r S j m c v f d l) in
      let o = a.2 in (
        a.0,
        a.1,
        elim (here? w t' c h q x' n.place o.1 c o.0 (upper o.0 v) o.2) [
          | inr i ↦ set_leads w t' c h q x' n.place c v o.0 o.1 a.0 d o.2 i.1 o.3
          | inl i ↦ absurd (no_way (cleared s t c h q x b r S j m) (clear_core s t c h q x b r S j m k) c v h q t f d m.place
              (ap (descriptor h) (set_here s t c h q x m.place t (q % 512) refl refl) ∙ m.reads)
              (ap (λ (k : ℕ). upper k v) (sym i.2) ∙ i.3) l)
        ],
      )

  pub linked_leads : (t u t' u' h q x x' : ℕ) (m : Link s t u c h q x) (n : Link w t' u' c h q x') →
      ((v f r : ℕ) → upper h v / 512 ≡ q → Says s u h v f r → (f' : ℕ) × R f f' × Says w u' h v f' r) → (v f d : ℕ) →
      Leads (linked s t u c h q x m) c v f d → (f' : ℕ) × R f f' × Leads (linked w t' u' c h q x' n) c v f' d
  linked_leads t u t' u' h q x x' m n says v f d l = elim (linked_new s t u c h q x m c v f d l) [
    | inl o ↦ let i = base v f d o in (i.0, i.1, link_leads w t' u' c h q x' n c v i.0 d i.2)
    | inr o ↦
        let i = says v f d o.2 o.3 in
        let k = i.2 in (
          i.0,
          i.1,
          (
            h,
            u',
            upd_same w.kind u' (table c h q) ∙ ap (table c h) (sym o.2),
            (
              k.0,
              ap (descriptor h) (set_beside w t' c (suc h) q x' n.place u' (upper h v % 512)
                  (not_claimed w t' c (suc h) q x' n.place u' c h q n.was)) ∙ k.1,
              k.2,
            ),
          ),
        )
  ]

pub fade_half : {c : ℕ} {R : Frames} {G G' : Ghost} {y z : Machine} (P D D' : ℕ → Bool) → exists y.spaces c ≡ exists z.spaces c →
    Half c R G G' y z →
    Half c R (fade c P y.spaces G) (fade c P z.spaces G')
    (record { spaces = reported y.spaces c D; caches = forget y.caches c P })
    (record { spaces = reported z.spaces c D'; caches = forget z.caches c P })
fade_half {c} {R} {G} {G'} {y} {z} P D D' e H = record {
  at = λ v x r g. let a = H.at v x r g.0 in (
    a.0,
    a.1,
    a.2,
    a.3,
    (
      a.4,
      elim g.1 [
        | inl n ↦ inl n
        | inr w ↦
            let i = w.1 in
            let f= : i.0 ≡ a.0 = same_frame y.spaces.first i.0 a.0 x i.1 a.2 in
            inr (elim w.0 [ inl l ↦ inl (sym e ∙ l) | inr n ↦ inr n ], (a.1, refl, a.5 (rw f= at i.2)))
      ],
    ),
    a.5,
  );
}
