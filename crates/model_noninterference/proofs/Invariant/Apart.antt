-- What a frame is to guest g, and what each operation makes of that: only operations that concern g do anything.
use mathlib.Core.Path.{◌≡◌, refl, sym, ap, ◌∙◌}
use mathlib.Core.Bool.{Bool, true, false, ◌&&◌, cond}
use mathlib.Core.Logic.{◌⊎◌, inl, inr}
use Prim.Native.Nat.{ℕ, ◌/◌}
use lib.Dec.{eqb, ltb, leb}
use borrow.Author.Tests.{leb-true, eqb-true, eq-eqb, ne_eqb}
use Rattle.model.proofs.Laws.Base.{eq?, bool?, and_true, not_true, all_true}
use Rattle.model.specs.Base.{upd, upd2}
use Rattle.model.proofs.Laws.Base.{upd_same, upd_at, upd_other, upd2_at, upd2_other}
use Rattle.model.specs.State.{State, KindOfFrame, monitor, free, table, draining_table, page, draining_page, is_page_of, total, free_frames}
use Rattle.model.specs.Translate.{translate, missing}
use Rattle.model.specs.Changes.{Choice, zeros, becomes, with_root, Grown, grow, with_page, with_mapping, without_page, drained, without_guest, released, clean}
use Rattle.model.specs.Operations.{create, give, map, unmap, share, unshare, take, unshared, destroy, invalidated}
use Rattle.model.specs.Cache.{nothing_kept}
use Rattle.model.specs.Machine.{Operation, Create, Give, Take, Map, Unmap, Share, Unshare, Destroy, Invalidated, answer, Chooses}
use Rattle.model.specs.State.{kind_number, TABLE}
use Rattle.model.proofs.Invariant.Kinds.{free_is, page_of_is}
use Rattle.model.specs.Invariant.{Core}
use Rattle.model.proofs.Invariant.Core.{low}
use Rattle.model.proofs.Invariant.Way.{translate_from}
use Rattle.model.proofs.Invariant.Choice.{first_free}
use Rattle.model.proofs.Invariant.GiveTake.{with_nobody}
use Rattle.model.proofs.Invariant.MapUnmap.{address_low, some_is, grown_for, without_is}
use Rattle.model.proofs.Invariant.Answer.{Then, then_done, checked}
use Rattle.model.proofs.Invariant.Holds.{nothing_ok}

-- 1 its own page, 2 a page that is shared with it, 3 a page that drains for it, 0 nothing that it may read
abbrev pub role : (g : ℕ) → KindOfFrame → (how : ℕ) → ℕ
role g monitor how = 0
role g free how = 0
role g (table h n p) how = 0
role g (draining_table h n p) how = 0
role g (page h) how = cond (eqb h g) 1 (cond (leb 1 how) 2 0)
role g (draining_page h) how = cond (eqb h g) 3 0

abbrev pub role_of : State → (g f : ℕ) → ℕ
role_of s g f = role g (s.kind f) (s.shared f g)

-- after the operation, by what it was; dirty: whether g is dirty before
abbrev pub role_after : (g : ℕ) (dirty : Bool) → Operation → (f : ℕ) → ℕ → ℕ
role_after g d (Create h pick) f k = k
role_after g d (Give f' h) f k = cond (eqb f f' && eqb h g) 1 k
role_after g d (Take f' h) f k = cond (eqb f f' && eqb h g) (cond d 3 0) k
role_after g d (Map f' h a r pick) f k = k
role_after g d (Unmap a h) f k = k
role_after g d (Share o f' h w) f k = cond (eqb f f' && eqb h g) 2 k
role_after g d (Unshare o f' h) f k = cond (eqb f f' && eqb h g) (cond (eqb k 2) 0 k) k
role_after g d (Destroy h) f k = cond (eqb h g) (cond (eqb k 1) 3 k) k
role_after g d (Invalidated h) f k = cond (eqb h g) (cond (eqb k 3) 0 k) k

abbrev pub dirty_after : (g : ℕ) → Operation → Bool → Bool
dirty_after g (Create h pick) d = d
dirty_after g (Give f h) d = d
dirty_after g (Take f h) d = d
dirty_after g (Map f h a r pick) d = d
dirty_after g (Unmap a h) d = cond (eqb h g) true d
dirty_after g (Share o f h w) d = d
dirty_after g (Unshare o f h) d = d
dirty_after g (Destroy h) d = cond (eqb h g) true d
dirty_after g (Invalidated h) d = cond (eqb h g) false d

pub record Turns (g : ℕ) (s : State) (o : Operation) (s' : State) : Type 0 where
  pub roles : (f : ℕ) → role_of s' g f ≡ role_after g (s.dirty g) o f (role_of s g f)
  pub dirty : s'.dirty g ≡ dirty_after g o (s.dirty g)

pub upd_cond : {A : Type 0} (f : ℕ → A) (k g : ℕ) (v : A) → upd f k v g ≡ cond (eqb k g) v (f g)
upd_cond f k g v = elim (eq? k g) [
  | inl e ↦ rw (upd_at f k v g (sym e), eq-eqb k g e)
  | inr e ↦ rw (upd_other f k v g (λ p. e (sym p)), ne_eqb k g e)
]

-- a frame f of the state becomes something: the rest is as before
becomes_roles : (g : ℕ) (s : State) (f : ℕ) (y : KindOfFrame) (w sh : ℕ → ℕ → ℕ) (k : ℕ → ℕ → ℕ) →
    ((u : ℕ) → (u ≡ f → ⊥) → sh u g ≡ s.shared u g) → ((u : ℕ) → (u ≡ f → ⊥) → k u (role_of s g u) ≡ role_of s g u) →
    role g y (sh f g) ≡ k f (role_of s g f) → (u : ℕ) → role_of (becomes s f y w sh) g u ≡ k u (role_of s g u)
unfolding becomes
becomes_roles g s f y w sh k se others here u = elim (eq? u f) [
  | inl p ↦ rw (upd_at s.kind f y u p, p) here
  | inr p ↦ rw (upd_other s.kind f y u p, se u p) (sym (others u p))
]

-- no role but the four
no_two : (b : Bool) → ◌≡◌ {A = ℕ} (cond (eqb (cond b 2 0) 1) 3 (cond b 2 0)) (cond b 2 0)
no_two true = refl
no_two false = refl

drained_role : (g h : ℕ) (x : KindOfFrame) (how : ℕ) → (x ≡ page h → (h ≡ g → ⊥) → how ≡ 0) →
    role g (drained h x) how ≡ cond (eqb h g) (cond (eqb (role g x how) 1) 3 (role g x how)) (role g x how)
unfolding drained
drained_role g h monitor how z = elim (bool? (eqb h g)) [ inl e ↦ rw e | inr e ↦ rw e ]
drained_role g h free how z = elim (bool? (eqb h g)) [ inl e ↦ rw e | inr e ↦ rw e ]
drained_role g h (table a n p) how z = elim (bool? (eqb h g)) [
  | inl e ↦ elim (bool? (eqb a h)) [ inl q ↦ rw (e, q) | inr q ↦ rw (e, q) ]
  | inr e ↦ elim (bool? (eqb a h)) [ inl q ↦ rw (e, q) | inr q ↦ rw (e, q) ]
]
drained_role g h (draining_table a n p) how z = elim (bool? (eqb h g)) [ inl e ↦ rw e | inr e ↦ rw e ]
drained_role g h (page a) how z = elim (eq? h g) [
  | inl e ↦ elim (eq? a h) [
    | inl q ↦ rw (eq-eqb h g e, eq-eqb a h q, eq-eqb a g (q ∙ e))
    | inr q ↦ rw (eq-eqb h g e, ne_eqb a h q, ne_eqb a g (λ (y : a ≡ g). q (y ∙ sym e))) (sym (no_two (leb 1 how)))
  ]
  | inr e ↦ elim (eq? a h) [
    | inl q ↦ rw (ne_eqb h g e, eq-eqb a h q, ne_eqb a g (λ (y : a ≡ g). e (sym q ∙ y)), z (ap page q) e)
    | inr q ↦ rw (ne_eqb h g e, ne_eqb a h q)
  ]
]
drained_role g h (draining_page a) how z = elim (bool? (eqb h g)) [
  | inr e ↦ rw e
  | inl e ↦ elim (bool? (eqb a g)) [ inl q ↦ rw (e, q) | inr q ↦ rw (e, q) ]
]

released_role : (g h : ℕ) (x : KindOfFrame) (how : ℕ) → role g (released h x) how ≡
    cond (eqb h g) (cond (eqb (role g x how) 3) 0 (role g x how)) (role g x how)
unfolding released
released_role g h monitor how = elim (bool? (eqb h g)) [ inl e ↦ rw e | inr e ↦ rw e ]
released_role g h free how = elim (bool? (eqb h g)) [ inl e ↦ rw e | inr e ↦ rw e ]
released_role g h (table a n p) how = elim (bool? (eqb h g)) [ inl e ↦ rw e | inr e ↦ rw e ]
released_role g h (draining_table a n p) how = elim (bool? (eqb h g)) [
  | inl e ↦ elim (bool? (eqb a h)) [ inl q ↦ rw (e, q) | inr q ↦ rw (e, q) ]
  | inr e ↦ elim (bool? (eqb a h)) [ inl q ↦ rw (e, q) | inr q ↦ rw (e, q) ]
]
released_role g h (page a) how = elim (bool? (eqb h g)) [
  | inr e ↦ rw e
  | inl e ↦ elim (bool? (eqb a g)) [
    | inl q ↦ rw (e, q)
    | inr q ↦ elim (bool? (leb 1 how)) [ inl l ↦ rw (e, q, l) | inr l ↦ rw (e, q, l) ]
  ]
]
released_role g h (draining_page a) how = elim (eq? h g) [
  | inl e ↦ elim (eq? a h) [
    | inl q ↦ rw (eq-eqb h g e, eq-eqb a h q, eq-eqb a g (q ∙ e))
    | inr q ↦ rw (eq-eqb h g e, ne_eqb a h q, ne_eqb a g (λ (y : a ≡ g). q (y ∙ sym e)))
  ]
  | inr e ↦ elim (eq? a h) [
    | inl q ↦ rw (ne_eqb h g e, eq-eqb a h q, ne_eqb a g (λ (y : a ≡ g). e (sym q ∙ y)))
    | inr q ↦ rw (ne_eqb h g e, ne_eqb a h q)
  ]
]

module _ (g : ℕ) (s : State) (c : Core s) where
  create_turns : (h : ℕ) (pick : ℕ → ℕ) → Choice s pick → Then (Turns g s (Create h pick)) (create s h pick)
  unfolding create with_root
  create_turns h pick ch = checked 1 λ e1. checked 2 λ e2. checked 3 λ e3.
      let hf = first_free s c pick ch (leb-true 1 (free_frames s) e3) in
      then_done (record {
        roles = λ u. elim (eq? u (pick 0)) [
          | inl p ↦ rw (upd_at s.kind (pick 0) (table h 3 0) u p, p, hf)
          | inr p ↦ rw (upd_other s.kind (pick 0) (table h 3 0) u p)
        ];
        dirty = refl;
      })

  give_turns : (f h : ℕ) → Then (Turns g s (Give f h)) (give s f h)
  unfolding give zeros
  give_turns f h = checked 5 λ e1. checked 4 λ e2. checked 6 λ e3.
      then_done (record {
        roles = becomes_roles g s f (page h) (upd s.word f zeros) (upd s.shared f zeros) (λ u k. cond (eqb u f && eqb h g) 1 k)
            (λ u ne. ap (λ (x : ℕ → ℕ). x g) (upd_other s.shared f zeros u ne)) (λ u ne. rw (ne_eqb u f ne))
            (rw (upd_same s.shared f zeros, eq-eqb f f refl, free_is (s.kind f) e3));
        dirty = unfold becomes in refl;
      })

  taken_role : (f h : ℕ) → s.kind f ≡ page h → s.shared f g ≡ 0 →
      role g (cond (s.dirty h) (draining_page h) free) (s.shared f g) ≡ cond (eqb h g) (cond (s.dirty g) 3 0) (role_of s g f)
  taken_role f h hf z = elim (eq? h g) [
    | inl p ↦ rw (p, eq-eqb g g refl) (elim (bool? (s.dirty g)) [ inl d ↦ rw (d, eq-eqb g g refl) | inr d ↦ rw d ])
    | inr p ↦ rw (hf, z, ne_eqb h g p) (elim (bool? (s.dirty h)) [ inl d ↦ rw (d, ne_eqb h g p) | inr d ↦ rw d ])
  ]

  take_turns : (f h : ℕ) → Then (Turns g s (Take f h)) (take s f h)
  unfolding take
  take_turns f h = checked 5 λ e1. checked 4 λ e2. checked 9 λ e3. checked 13 λ e4.
      let hf = page_of_is (s.kind f) h e3 in
      let z = with_nobody s c f h hf (eqb-true (total (s.shared f)) 0
      (and_true (eqb (total (s.count f)) 0) (eqb (total (s.shared f)) 0) e4).1) g in
      then_done (record {
        roles = becomes_roles g s f (cond (s.dirty h) (draining_page h) free) s.word s.shared
            (λ u k. cond (eqb u f && eqb h g) (cond (s.dirty g) 3 0) k)
            (λ u ne. refl) (λ u ne. rw (ne_eqb u f ne)) (rw (eq-eqb f f refl) (taken_role f h hf z));
        dirty = unfold becomes in refl;
      })

  lent_role : (o f h w : ℕ) → s.kind f ≡ page o → eqb o h ≡ false →
      role g (page o) (upd2 s.shared f h (cond (eqb w 0) 1 2) f g) ≡ cond (eqb h g) 2 (role_of s g f)
  lent_role o f h w hf ne = elim (eq? h g) [
    | inl p ↦ rw (eq-eqb h g p, upd2_at s.shared f h (cond (eqb w 0) 1 2) f g refl (sym p), rw p at ne)
        (elim (bool? (eqb w 0)) [ inl e ↦ rw e | inr e ↦ rw e ])
    | inr p ↦ rw (ne_eqb h g p, upd2_other s.shared f h (cond (eqb w 0) 1 2) f g (λ x y. p (sym y)), hf)
  ]

  share_turns : (o f h w : ℕ) → Then (Turns g s (Share o f h w)) (share s o f h w)
  unfolding share
  share_turns o f h w = checked 5 λ e1. checked 12 λ e2. checked 4 λ e3. checked 9 λ e4. checked 13 λ e5. checked 14 λ e6.
      then_done (record {
        roles = becomes_roles g s f (page o) s.word (upd2 s.shared f h (cond (eqb w 0) 1 2)) (λ u k. cond (eqb u f && eqb h g) 2 k)
            (λ u ne. upd2_other s.shared f h (cond (eqb w 0) 1 2) u g (λ x y. ne x)) (λ u ne. rw (ne_eqb u f ne))
            (rw (eq-eqb f f refl) (lent_role o f h w (page_of_is (s.kind f) o e4) (not_true (eqb o h) e2)));
        dirty = unfold becomes in refl;
      })

  unlent_role : (o f h : ℕ) → s.kind f ≡ page o → role g (page o) (upd2 s.shared f h 0 f g) ≡
      cond (eqb h g) (cond (eqb (role_of s g f) 2) 0 (role_of s g f)) (role_of s g f)
  unlent_role o f h hf = elim (eq? h g) [
    | inl p ↦ rw (eq-eqb h g p, upd2_at s.shared f h 0 f g refl (sym p), hf) (elim (bool? (eqb o g)) [
      | inl e ↦ rw e
      | inr e ↦ rw e (elim (bool? (leb 1 (s.shared f g))) [ inl l ↦ rw l | inr l ↦ rw l ])
    ])
    | inr p ↦ rw (ne_eqb h g p, upd2_other s.shared f h 0 f g (λ x y. p (sym y)), hf)
  ]

  unshare_turns : (o f h : ℕ) → Then (Turns g s (Unshare o f h)) (unshare s o f h)
  unfolding unshare
  unshare_turns o f h = checked 5 λ e1. checked 4 λ e2. checked 9 λ e3. checked 13 λ e4. checked 14 λ e5.
      then_done (record {
        roles = becomes_roles g s f (page o) s.word (upd2 s.shared f h 0) (λ u k. cond (eqb u f && eqb h g) (cond (eqb k 2) 0 k) k)
            (λ u ne. upd2_other s.shared f h 0 u g (λ x y. ne x)) (λ u ne. rw (ne_eqb u f ne))
            (rw (eq-eqb f f refl) (unlent_role o f h (page_of_is (s.kind f) o
            (and_true (is_page_of (s.kind f) o) (ltb 0 (s.shared f h)) e3).0)));
        dirty = unfold becomes in refl;
      })

  destroy_turns : (h : ℕ) → Then (Turns g s (Destroy h)) (destroy s h)
  unfolding destroy without_guest unshared
  destroy_turns h = checked 5 λ e1. checked 13 λ e2.
      then_done (record {
        roles = λ u. drained_role g h (s.kind u) (s.shared u g)
            (λ (a : s.kind u ≡ page h) ne. nobody u a (all_true s.size (λ f. unshared s f h) e2 u (low s c u (page h) a refl)));
        dirty = upd_cond s.dirty h g true;
      })
    where
      nobody : (u : ℕ) → s.kind u ≡ page h → unshared s u h ≡ true → s.shared u g ≡ 0
      nobody u a e = unfold unshared in
          let b = rw (a, eq-eqb h h refl) at e in
          with_nobody s c u h a (eqb-true (total (s.shared u)) 0 (and_true (eqb (s.shared u h) 0) (eqb (total (s.shared u)) 0) b).1) g

  invalidated_turns : (h : ℕ) → Then (Turns g s (Invalidated h)) (invalidated s h)
  unfolding invalidated clean
  invalidated_turns h = checked 1 λ e1. then_done (record {
    roles = λ u. released_role g h (s.kind u) (s.shared u g);
    dirty = upd_cond s.dirty h g false;
  })

  map_turns : (f h a r : ℕ) (pick : ℕ → ℕ) → Choice s pick → Then (Turns g s (Map f h a r pick)) (map s f h a r pick)
  unfolding map with_mapping with_page
  map_turns f h a r pick ch =
      checked 5 λ e1. checked 14 λ e2. checked 7 λ e3. checked 8 λ e4. checked 4 λ e5. checked 9 λ e6. checked 10 λ e7. checked 3 λ e8.
      let z = grown_for s c nothing_kept (nothing_ok s) h (a / 4096) pick e1 (address_low a e3) ch
      (leb-true (missing s h (a / 4096)) (free_frames s) e8) in
      then_done (record {
        roles = λ u. ap (λ (sh : ℕ → ℕ → ℕ). role g (x.state.kind u) (sh u g)) z.shared ∙ same u (z.from u (x.state.kind u) refl);
        dirty = ap (λ (d : ℕ → Bool). d g) z.dirty;
      })
    where
      x : Grown
      x = grow 3 s h (s.root h) (a / 4096) pick

      a_table : (y : KindOfFrame) (how : ℕ) → eqb TABLE (kind_number y) ≡ true → role g y how ≡ 0
      a_table monitor how e = refl
      a_table free how e = refl
      a_table (table h n p) how e = refl
      a_table (draining_table h n p) how e = refl
      a_table (page h) how e = cc
      a_table (draining_page h) how e = cc

      same : (u : ℕ) → (s.kind u ≡ x.state.kind u) ⊎ ((s.kind u ≡ free) × (eqb TABLE (kind_number (x.state.kind u)) ≡ true)) →
          role g (x.state.kind u) (s.shared u g) ≡ role_of s g u
      same u (inl e) = rw e
      same u (inr e) = a_table (x.state.kind u) (s.shared u g) e.1 ∙ rw e.0

  unmap_turns : (h a : ℕ) → Then (Turns g s (Unmap a h)) (unmap s a h)
  unfolding unmap without_page
  unmap_turns h a =
      checked 5 λ e1. checked 7 λ e2. checked 11 λ e3.
      let o = some_is (translate s h (a / 4096)) e3 in
      let w = translate_from s h (a / 4096) o.0 o.1 o.2 in
      rw (without_is s c h (a / 4096) w.0 o.0 o.1 w.1 o.2)
      (then_done (record { roles = λ u. refl; dirty = upd_cond s.dirty h g true }))

  pub answer_turns : (o : Operation) → Chooses s o → Then (Turns g s o) (answer s o)
  unfolding answer
  answer_turns (Create h pick) ch = create_turns h pick ch
  answer_turns (Give f h) ch = give_turns f h
  answer_turns (Take f h) ch = take_turns f h
  answer_turns (Map f h a r pick) ch = map_turns f h a r pick ch
  answer_turns (Unmap a h) ch = unmap_turns h a
  answer_turns (Share o f h w) ch = share_turns o f h w
  answer_turns (Unshare o f h) ch = unshare_turns o f h
  answer_turns (Destroy h) ch = destroy_turns h
  answer_turns (Invalidated h) ch = invalidated_turns h
