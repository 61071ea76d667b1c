-- An owner gets a page back: the way there, guest by guest.
use mathlib.Core.Path.{◌≡◌, refl, sym, ap, subst, ◌∙◌}
use mathlib.Core.Bool.{true, false}
use mathlib.Core.Logic.{◌⊎◌, inl, inr}
use mathlib.Core.Option.{some}
use Prim.Native.Nat.{ℕ, zero, suc, pred, ◌*◌, ◌≤◌, ◌<◌, ◌/◌, ◌%◌}
use native.Mathlib.Omega.{arith}
use borrow.Author.Tests.{eq-eqb, lt-ltb, le-leb}
use Rattle.model.proofs.Laws.Base.{eq?, lt?, bool?, sum_cong, sum_none}
use Rattle.model.proofs.Laws.Base.{upd_same, upd2_same, upd2_other}
use Rattle.model.specs.Base.{upd2}
use Rattle.model.specs.State.{State, free, page, guests, is_guest, page_count, total}
use Rattle.model.specs.Translate.{leaf, translate}
use Rattle.model.specs.Changes.{becomes, without_page, released, clean}
use Rattle.model.specs.Operations.{Out, done, check, unmap, unshare, take, invalidated}
use Rattle.model.specs.Cache.{nothing_kept}
use Rattle.model.specs.Machine.{Machine, Operation, Unmap, Unshare, Take, Invalidated, answer, Chooses, keeps, settle, call, Run, stop, then, calls}
use Rattle.model.specs.Terms.{Asked, nothing, ask, Reclaims}
use Rattle.model.specs.Invariant.{Core}
use Rattle.model.proofs.Invariant.Core.{low}
use Rattle.model.proofs.Invariant.MapUnmap.{without_is}
use Rattle.model.proofs.Invariant.Answer.{Then, then_is, then_more}
use Rattle.model.proofs.Invariant.Holds.{answer_good, nothing_ok}
use Rattle.model.proofs.Invariant.Linked.{Linked, answer_linked}
use Rattle.model.proofs.Invariant.LinkedAlways.{mapped_somewhere}

pub answer_core : (s : State) (c : Core s) (o : Operation) → Chooses s o → Then Core (answer s o)
answer_core s c o ch = then_more (answer s o) (λ s x. x.core) (answer_good s c nothing_kept (nothing_ok s) o ch)

asked_then : {P : State → Operation → Type 0} {s s' s'' : State} → Asked P s s' → Asked P s' s'' → Asked P s s''
asked_then nothing y = y
asked_then (ask o s' p ch e x) y = ask o s' p ch e (asked_then x y)

-- what is answered 0
module _ (s : State) (c : Core s) where
  unmap_granted : (h v t f r : ℕ) → v < page_count → s.exists h ≡ true → leaf s h v ≡ some t → translate s h v ≡ some (f, r) →
      answer s (Unmap (v * 4096) h) ≡ done (without_page s t (v % 512) f h)
  unfolding answer unmap check
  unmap_granted h v t f r l e a b =
      let m : v * 4096 % 4096 ≡ 0 = omega arith in
      let d : v * 4096 / 4096 ≡ v = omega arith in
      rw (e, m, lt-ltb (v * 4096) 0x1000000000000 (omega arith), d, b, without_is s c h v t f r a b)

  clean_granted : (h : ℕ) → is_guest h ≡ true → answer s (Invalidated h) ≡ done (clean s h)
  unfolding answer invalidated check
  clean_granted h e = rw e

  unshare_granted : (f g h : ℕ) → s.kind f ≡ page g → s.exists h ≡ true → 0 < s.shared f h → s.count f h ≡ 0 → s.dirty h ≡ false →
      answer s (Unshare g f h) ≡ done (becomes s f (page g) s.word (upd2 s.shared f h 0))
  unfolding answer unshare check
  unshare_granted f g h k e l z d = rw (
    c.page_exists f g k,
    e,
    lt-ltb f s.size (low s c f (page g) k refl),
    k,
    eq-eqb g g refl,
    lt-ltb 0 (s.shared f h) l,
    z,
    d,
  )

  take_granted : (f g : ℕ) → s.kind f ≡ page g → s.dirty g ≡ false → total (s.count f) ≡ 0 → total (s.shared f) ≡ 0 →
      answer s (Take f g) ≡ done (becomes s f free s.word s.shared)
  unfolding answer take check
  take_granted f g k d z1 z2 = rw (c.page_exists f g k, lt-ltb f s.size (low s c f (page g) k refl), k, eq-eqb g g refl, z1, z2, d)

module _ (f g : ℕ) where
  -- f is mapped nowhere in h any more; all else about f is as it was
  record Unmapped (s : State) (h : ℕ) (s' : State) : Type 0 where
    core : Core s'
    linked : Linked s'
    asked : Asked (Reclaims f g) s s'
    kind : s'.kind f ≡ s.kind f
    shared : (h' : ℕ) → s'.shared f h' ≡ s.shared f h'
    none : s'.count f h ≡ 0
    others : (h' : ℕ) → (h' ≡ h → ⊥) → s'.count f h' ≡ s.count f h'

  unmap_all : (n : ℕ) (s : State) → Core s → Linked s → (h : ℕ) → s.count f h ≡ n → (s' : State) × Unmapped s h s'
  unmap_all zero s c l h e = (
    s,
    record {
      core = c;
      linked = l;
      asked = nothing;
      kind = refl;
      shared = λ h'. refl;
      none = e;
      others = λ h' ne. refl;
    },
  )
  unmap_all (suc n) s c l h e =
      let a = mapped_somewhere s c l f h (omega arith) in
      let v = a.0 in
      let s1 = without_page s a.2 (v % 512) f h in
      let g1 = unmap_granted s c h v a.2 f a.1 a.3 a.4 a.5 a.6 in
      let b = unmap_all n s1 (then_is (answer s (Unmap (v * 4096) h)) s1 (answer_core s c (Unmap (v * 4096) h) tt) g1)
      (then_is (answer s (Unmap (v * 4096) h)) s1 (answer_linked s c l (Unmap (v * 4096) h) tt) g1) h
      (one_less s a.2 (v % 512) h n e) in
      (b.0, more v a.1 a.2 a.6 g1 b.0 b.1)
    where
      one_less : (s : State) (t i h n : ℕ) → s.count f h ≡ suc n → (without_page s t i f h).count f h ≡ n
      one_less s t i h n e = unfold without_page in upd2_same s.count f h (pred (s.count f h)) ∙ ap pred e

      back : (v r : ℕ) (s : State) (h : ℕ) → translate s h v ≡ some (f, r) → translate s h (v * 4096 / 4096) ≡ some (f, r)
      back v r s h e = let d : v * 4096 / 4096 ≡ v = omega arith in rw d e

      more : (v r t : ℕ) → translate s h v ≡ some (f, r) → answer s (Unmap (v * 4096) h) ≡ done (without_page s t (v % 512) f h) →
          (s' : State) → Unmapped (without_page s t (v % 512) f h) h s' → Unmapped s h s'
      more v r t e g1 s' u = record {
        core = u.core;
        linked = u.linked;
        asked = ask (Unmap (v * 4096) h) (without_page s t (v % 512) f h) (r, back v r s h e) tt g1 u.asked;
        kind = u.kind ∙ (unfold without_page in refl);
        shared = λ h'. u.shared h' ∙ (unfold without_page in refl);
        none = u.none;
        others = λ h' ne. u.others h' ne ∙ (unfold without_page in upd2_other s.count f h (pred (s.count f h)) f h' (λ x y. ne y));
      }

  -- f is not shared with h any more either
  record Withdrawn (s : State) (h : ℕ) (s' : State) : Type 0 where
    core : Core s'
    linked : Linked s'
    asked : Asked (Reclaims f g) s s'
    kind : s'.kind f ≡ page g
    none : (s'.count f h ≡ 0) × (s'.shared f h ≡ 0)
    others : (h' : ℕ) → (h' ≡ h → ⊥) → (s'.count f h' ≡ s.count f h') × (s'.shared f h' ≡ s.shared f h')

  withdraw : (s : State) → Core s → Linked s → s.kind f ≡ page g → (h : ℕ) → is_guest h ≡ true → (s' : State) × Withdrawn s h s'
  withdraw s c l k h eh = go (unmap_all (s.count f h) s c l h refl)
    where
      go : (s' : State) × Unmapped s h s' → (s' : State) × Withdrawn s h s'
      go x =
          let s1 = x.0 in
          let u = x.1 in
          let s2 = clean s1 h in
          let g2 = clean_granted s1 u.core h eh in
          let c2 = then_is (answer s1 (Invalidated h)) s2 (answer_core s1 u.core (Invalidated h) tt) g2 in
          let l2 = then_is (answer s1 (Invalidated h)) s2 (answer_linked s1 u.core u.linked (Invalidated h) tt) g2 in
          let k2 : s2.kind f ≡ page g = unfold clean released in ap (released h) (u.kind ∙ k) in
          let d2 : s2.dirty h ≡ false = unfold clean in upd_same s1.dirty h false in
          let n2 : s2.count f h ≡ 0 = unfold clean in u.none in
          let o2 : (h' : ℕ) → (h' ≡ h → ⊥) → (s2.count f h' ≡ s.count f h') × (s2.shared f h' ≡ s.shared f h') =
          unfold clean in λ h' ne. (u.others h' ne, u.shared h') in
          let a2 : Asked (Reclaims f g) s s2 = asked_then u.asked (ask (Invalidated h) s2 tt tt g2 nothing) in
          unshared? s2 c2 l2 k2 d2 n2 o2 a2 (lt? 0 (s2.shared f h))
        where
          unshared? : (s2 : State) (c2 : Core s2) (l2 : Linked s2) (k2 : s2.kind f ≡ page g) (d2 : s2.dirty h ≡ false)
              (n2 : s2.count f h ≡ 0)
              (o2 : (h' : ℕ) → (h' ≡ h → ⊥) → (s2.count f h' ≡ s.count f h') × (s2.shared f h' ≡ s.shared f h'))
              (a2 : Asked (Reclaims f g) s s2) →
              (0 < s2.shared f h) ⊎ (s2.shared f h ≤ 0) → (s' : State) × Withdrawn s h s'
          unshared? s2 c2 l2 k2 d2 n2 o2 a2 (inr z) = (
            s2,
            record
                { core = c2; linked = l2; asked = a2; kind = k2; none = (n2, omega arith); others = o2 },
          )
          unshared? s2 c2 l2 k2 d2 n2 o2 a2 (inl z) =
              let there : s2.exists h ≡ true = elim (bool? (s2.exists h))
              [ inl e ↦ e | inr e ↦ let y = c2.strangers f g h k2 e in absurd (omega arith) ] in
              let s3 = becomes s2 f (page g) s2.word (upd2 s2.shared f h 0) in
              let g3 = unshare_granted s2 c2 f g h k2 there z n2 d2 in (
                s3,
                record {
                  core = then_is (answer s2 (Unshare g f h)) s3 (answer_core s2 c2 (Unshare g f h) tt) g3;
                  linked = then_is (answer s2 (Unshare g f h)) s3 (answer_linked s2 c2 l2 (Unshare g f h) tt) g3;
                  asked = asked_then a2 (ask (Unshare g f h) s3 (refl, refl) tt g3 nothing);
                  kind = unfold becomes in upd_same s2.kind f (page g);
                  none = ((unfold becomes in n2), (unfold becomes in upd2_same s2.shared f h 0));
                  others = λ h' ne. (
                    (unfold becomes in (o2 h' ne).0),
                    (unfold becomes in upd2_other s2.shared f h 0 f h' (λ x y. ne y) ∙ (o2 h' ne).1),
                  );
                },
              )

  -- from nobody up to guest n
  record Private (s : State) (n : ℕ) (s' : State) : Type 0 where
    core : Core s'
    linked : Linked s'
    asked : Asked (Reclaims f g) s s'
    kind : s'.kind f ≡ page g
    none : (h : ℕ) → 0 < h → h ≤ n → (s'.count f h ≡ 0) × (s'.shared f h ≡ 0)

  withdraw_all : (n : ℕ) → n ≤ guests → (s : State) → Core s → Linked s → s.kind f ≡ page g → (s' : State) × Private s n s'
  withdraw_all zero b s c l k = (s, record { core = c; linked = l; asked = nothing; kind = k; none = λ h p q. absurd (omega arith) })
  withdraw_all (suc n) b s c l k =
      let x = withdraw_all n (omega arith) s c l k in
      let p = x.1 in
      let y = withdraw x.0 p.core p.linked p.kind (suc n) (rw (lt-ltb 0 (suc n) (omega arith), le-leb (suc n) guests b)) in
      let w = y.1 in (
        y.0,
        record {
          core = w.core;
          linked = w.linked;
          asked = asked_then p.asked w.asked;
          kind = w.kind;
          none = λ h a d. elim (eq? h (suc n)) [
            | inl e ↦ rw e w.none
            | inr e ↦ let o = w.others h e in let q = p.none h a (omega arith) in (o.0 ∙ q.0, o.1 ∙ q.1)
          ];
        },
      )

  total_none : (c : ℕ → ℕ) → ((h : ℕ) → 0 < h → h ≤ guests → c h ≡ 0) → total c ≡ 0
  unfolding total
  total_none c z = sum_cong guests (λ h. c (suc h)) (λ h. 0) (λ h l. z (suc h) (omega arith) (omega arith))
      ∙ sum_none guests (λ h. 0) (λ h. refl)

  pub reclaimed : (s : State) → Core s → Linked s → s.kind f ≡ page g → (s' : State) × (Asked (Reclaims f g) s s') × (s'.kind f ≡ free)
  reclaimed s c l k =
      let x = withdraw_all guests (omega arith) s c l k in
      let s1 = x.0 in
      let p = x.1 in
      let s2 = clean s1 g in
      let g2 = clean_granted s1 p.core g (c.guests_only g (c.page_exists f g k)) in
      let c2 = then_is (answer s1 (Invalidated g)) s2 (answer_core s1 p.core (Invalidated g) tt) g2 in
      let k2 : s2.kind f ≡ page g = unfold clean released in ap (released g) p.kind in
      let d2 : s2.dirty g ≡ false = unfold clean in upd_same s1.dirty g false in
      let z1 : total (s2.count f) ≡ 0 = unfold clean in total_none (s1.count f) (λ h a b. (p.none h a b).0) in
      let z2 : total (s2.shared f) ≡ 0 = unfold clean in total_none (s1.shared f) (λ h a b. (p.none h a b).1) in
      let g3 = take_granted s2 c2 f g k2 d2 z1 z2 in
      let s3 = becomes s2 f free s2.word s2.shared in (
        s3,
        asked_then p.asked (ask (Invalidated g) s2 tt tt g2 (ask (Take f g) s3 (refl, refl) tt g3 nothing)),
        unfold becomes in upd_same s2.kind f free,
      )

-- what is asked for is a run
pub asked_run : {P : State → Operation → Type 0} (m : Machine) {s s' : State} → m.state ≡ s → Asked P s s' →
    (z : Machine) × Run m z × (z.state ≡ s')
asked_run m e nothing = (m, stop, e)
asked_run m e (ask {s} o s' p ch q x) =
    let a : answer m.state o ≡ done s' = ap (λ (y : State). answer y o) e ∙ q in
    let y = asked_run (call m o) (state_is a) x in
    (y.0, then (calls o (subst (λ (y : State). Chooses y o) (sym e) ch)) y.1, y.2)
  where
    state_is : answer m.state o ≡ done s' → (call m o).state ≡ s'
    state_is a = unfold call in ap (λ (y : Out). (settle m (keeps m.caches o) y).state) a ∙ (unfold settle in refl)
