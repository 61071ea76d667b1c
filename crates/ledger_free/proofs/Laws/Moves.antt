-- Laws of specs/Moves.
use mathlib.Core.Path.{◌≡◌, refl, sym, ap, ◌∙◌, fun_ext}
use mathlib.Core.Bool.{Bool, true, false, true≢false, cond}
use mathlib.Core.Logic.{◌⊎◌, inl, inr}
use mathlib.Core.List.{List}
use Prim.Native.Nat.{ℕ, suc, ◌+◌, ◌*◌, ◌-◌, ◌≤◌, ◌<◌}
use native.Mathlib.Omega.{arith}
use lib.Dec.{eqb, ltb}
use lib.ListN.{length}
use borrow.Author.Tests.{eq-eqb, eqb-true}
use Rattle.model.specs.Base.{upd, upd2}
use Rattle.model.specs.State.{MONITOR, FREE, TABLE, PAGE, DRAINING_PAGE, KindOfFrame, free, table, page, is_free, DRAINING_TABLE}
use Rattle.model.specs.Changes.{drained, released}
use Rattle.ledger.specs.Cells.{store}
use Rattle.ledger.specs.Layout.{Row, frames, guest_rows, kind_at, size_in, pick_in, pick_of, size_of, kind_of, state_in, state_of}
use Rattle.ledger.specs.Columns.{ROW_WORDS, HEADER_WORDS, room_for_frames, HEADER, FREE_COUNT, KIND, GUEST, HEIGHT, RANGE, FRAME_AT, PLACE}
use Rattle.ledger.proofs.Laws.Kinds.{kind_here, free_here, stays, remains, code_apart, known_code}
use Rattle.ledger.specs.Kinds.{kind_code, known_kind, kind_for, draining}
use Rattle.ledger.specs.declared.kinds.Kind.{Kind}
use Rattle.ledger.specs.declared.kinds.Kind.TheVariants.{Table, DrainingTable, Page, DrainingPage}
use Rattle.ledger.specs.FreeSet.{FreeSet}
use Rattle.ledger.specs.Fields.{remade, with_kind, with_kind_by}
use Rattle.ledger.specs.LedgerSound.{RowsSound, LedgerSound, Holds, Changed, Taken}
use Rattle.ledger.proofs.Laws.LedgerSound.{holds_itself, holds_frame, holds_guest, changed, changed_as}
use Rattle.ledger.proofs.Laws.Fields.{Aside, aside_none, aside, state_free, state_kind, upd_self}
use Rattle.ledger.proofs.Laws.Stores.{row_low, guests_there}
use Rattle.ledger_free.proofs.Laws.Exchange.{swapped, inside, last_low, left_set, room_left, joined_set, kept_set}
use Rattle.ledger_free.specs.Moves.{placed, exchanged, settled}

abbrev placed_in : (F : ℕ → ℕ → ℕ) (f q : ℕ) → ℕ → ℕ → ℕ
placed_in F f q = upd2 (upd2 F FRAME_AT q f) PLACE f q

holds_placed : {len : ℕ} {l : List ℕ} {F G : ℕ → ℕ → ℕ} → Holds len l F G → (f q : ℕ) → f < room_for_frames →
    HEADER_WORDS + ROW_WORDS * f + ROW_WORDS ≤ len → q < room_for_frames → HEADER_WORDS + ROW_WORDS * q + ROW_WORDS ≤ len →
    Holds len (placed l f q) (placed_in F f q) G
unfolding placed
holds_placed x f q a b c d = holds_frame (holds_frame x FRAME_AT q f (omega arith) c (omega arith)) PLACE f q (omega arith) a (omega arith)

aside_placed : {F F' : ℕ → ℕ → ℕ} (f q : ℕ) → Aside F F' → Aside F (placed_in F' f q)
aside_placed f q h = aside (aside h FRAME_AT q f (inr (omega arith))) PLACE f q (inr (omega arith))

module _ (l : List ℕ) (s : LedgerSound l) (f : ℕ) (hf : f < size_of l) where
  abbrev old_frames : ℕ → ℕ → ℕ
  old_frames = frames l

  abbrev old_guests : ℕ → ℕ → ℕ
  old_guests = guest_rows l

  -- the rows that an exchange stores to
  pub place_row : {p : ℕ} → p ≡ old_frames PLACE f → Row l p
  place_row {p} e = row_low l s p (rw e (s.free_set.p_low f hf))

  pub frame_row : {q e : ℕ} → q < size_of l → e ≡ old_frames FRAME_AT q → Row l e
  frame_row {q} {e} hq x = row_low l s e (rw x (s.free_set.d_low q hq))

  free_cell : kind_of l f ≡ free → old_frames KIND f ≡ FREE
  free_cell e = eqb-true (old_frames KIND f) FREE (sym (free_here old_frames old_guests f hf) ∙ ap is_free e)

  pub not_one : is_free (kind_of l f) ≡ false → old_frames KIND f ≡ FREE → ⊥
  not_one e x = true≢false (sym (eq-eqb (old_frames KIND f) FREE x) ∙ sym (free_here old_frames old_guests f hf) ∙ e)

  -- f changes places with the frame at q and becomes k, and count' frames are free
  module _ (q k count' : ℕ) (hq : q < size_of l) (after : FreeSet (size_of l) (upd (old_frames KIND) f k)
      (swapped (old_frames FRAME_AT) (old_frames PLACE) f q)
      (swapped (old_frames PLACE) (old_frames FRAME_AT) q f) count') where
    abbrev new_frames : ℕ → ℕ → ℕ
    new_frames = upd2 (placed_in (placed_in old_frames (old_frames FRAME_AT q) (old_frames PLACE f)) f q) KIND f k

    abbrev new_guests : ℕ → ℕ → ℕ
    new_guests = upd2 old_guests FREE_COUNT HEADER count'

    holds_settled : Holds (length l) (settled l f q k count') new_frames new_guests
    unfolding settled exchanged
    holds_settled =
        let a = row_low l s f hf in let a1 = a.1 in
        let b = row_low l s q hq in
        let c = place_row refl in
        let d = frame_row hq refl in
        holds_frame (holds_guest (holds_placed (holds_placed (holds_itself l) (old_frames FRAME_AT q) (old_frames PLACE f) d.0 d.1
        c.0 c.1) f q
        a.0 a.1 b.0 b.1)
        FREE_COUNT HEADER count' (omega arith) (omega arith) (guests_there l s)) KIND f k (omega arith) a.0 (omega arith)

    aside_settled : Aside old_frames new_frames
    aside_settled = aside (aside_placed f q (aside_placed (old_frames FRAME_AT q) (old_frames PLACE f) aside_none)) KIND f k
        (inl (omega arith))

    -- whatever else is stored of what it is
    module _ (l' : List ℕ) (F'' : ℕ → ℕ → ℕ) (g h p : ℕ) (x : Holds (length l) l' F'' new_guests)
        (e0 : F'' KIND ≡ upd (old_frames KIND) f k)
        (e12 : F'' FRAME_AT ≡ swapped (old_frames FRAME_AT) (old_frames PLACE) f q)
        (e13 : F'' PLACE ≡ swapped (old_frames PLACE) (old_frames FRAME_AT) q f) where
      stocked : RowsSound (length l) F'' new_guests
      unfolding size_in upd2 upd
      stocked = record { length_fits = s.length_fits; few = s.few; free_set = rw (e0, e12, e13) after }

      becomes : F'' GUEST ≡ upd (old_frames GUEST) f g → F'' HEIGHT ≡ upd (old_frames HEIGHT) f h → F'' RANGE ≡ upd (old_frames RANGE) f p →
          Aside old_frames F'' →
          Changed (with_kind f (kind_at k g h p)) l l'
      becomes e1 e2 e3 same = changed l l' F'' new_guests x stocked (λ w.
          state_kind old_frames F'' new_guests w f k g h p (unfold size_in upd2 upd in hf) e0 e1 e2 e3 same
          ∙ ap (with_kind f (kind_at k g h p)) (state_free old_frames old_guests w count'))

  -- the free frame f leaves the free set and becomes k
  module _ (was : kind_of l f ≡ free) where
    abbrev last : ℕ
    last = old_guests FREE_COUNT HEADER - 1

    pub last_place : (0 < old_guests FREE_COUNT HEADER) × (last < size_of l)
    last_place =
        let a = inside (size_of l) (old_frames KIND) (old_frames FRAME_AT) (old_frames PLACE) (old_guests FREE_COUNT HEADER) f 0
        s.free_set hf (free_cell was) in (
          omega arith,
          last_low (size_of l) (old_frames KIND) (old_frames FRAME_AT) (old_frames PLACE) (old_guests FREE_COUNT HEADER) f 0
              s.free_set hf (free_cell was),
        )

    module _ (k : ℕ) (now : k ≡ FREE → ⊥) where
      left : FreeSet (size_of l) (upd (old_frames KIND) f k) (swapped (old_frames FRAME_AT) (old_frames PLACE) f last)
          (swapped (old_frames PLACE) (old_frames FRAME_AT) last f) last
      left = left_set (size_of l) (old_frames KIND) (old_frames FRAME_AT) (old_frames PLACE) (old_guests FREE_COUNT HEADER) f k
          s.free_set hf (free_cell was) now

      abbrev left_frames : ℕ → ℕ → ℕ
      left_frames = new_frames last k last last_place.1 left

      holds_left : Holds (length l) (settled l f last k last) left_frames (upd2 old_guests FREE_COUNT HEADER last)
      holds_left = holds_settled last k last last_place.1 left

      module _ (l' : List ℕ) (F'' : ℕ → ℕ → ℕ) (g h p : ℕ) (x : Holds (length l) l' F'' (upd2 old_guests FREE_COUNT HEADER last))
          (e0 : F'' KIND ≡ upd (old_frames KIND) f k) (e12 : F'' FRAME_AT ≡ swapped (old_frames FRAME_AT) (old_frames PLACE) f last)
          (e13 : F'' PLACE ≡ swapped (old_frames PLACE) (old_frames FRAME_AT) last f) where
        next_picked : f ≡ pick_of l 0 → pick_of l' ≡ (λ i. pick_of l (suc i))
        next_picked e = rw (x.frames_are, x.guests_are) (picked (unfold pick_in in e ∙ ap (old_frames FRAME_AT) (omega arith)))
          where
            picked : f ≡ old_frames FRAME_AT last → pick_in F'' (upd2 old_guests FREE_COUNT HEADER last) ≡
                (λ i. pick_in old_frames old_guests (suc i))
            picked e = unfold pick_in upd2 upd in fun_ext (λ i. at i e (ap (old_frames PLACE) e ∙ s.free_set.p_d last last_place.1))
              where
                same : f ≡ old_frames FRAME_AT last → old_frames PLACE f ≡ last →
                    swapped (old_frames FRAME_AT) (old_frames PLACE) f last ≡ old_frames FRAME_AT
                same e p = rw (p, upd_self (old_frames FRAME_AT) last)
                    (ap (upd (old_frames FRAME_AT) last) e ∙ upd_self (old_frames FRAME_AT) last)

                at : (i : ℕ) → f ≡ old_frames FRAME_AT last → old_frames PLACE f ≡ last →
                    F'' FRAME_AT (last - 1 - i) ≡ old_frames FRAME_AT (old_guests FREE_COUNT HEADER - 1 - suc i)
                at i e p =
                    let y : last - 1 - i ≡ old_guests FREE_COUNT HEADER - 1 - suc i = omega arith in
                    ap (λ (X : ℕ → ℕ). X (last - 1 - i)) (e12 ∙ same e p) ∙ ap (old_frames FRAME_AT) y

        taken : F'' GUEST ≡ upd (old_frames GUEST) f g → F'' HEIGHT ≡ upd (old_frames HEIGHT) f h → F'' RANGE ≡ upd (old_frames RANGE) f p →
            Aside old_frames F'' →
            Taken f (kind_at k g h p) l l'
        taken e1 e2 e3 same = record {
          changes = becomes last k last last_place.1 left l' F'' g h p x e0 e12 e13 e1 e2 e3 same;
          next = next_picked;
        }

    pub page_taken : {g : ℕ} {l₁ l' : List ℕ} → l₁ ≡ settled l f last PAGE last → l' ≡ store HEADER_WORDS l₁ GUEST f g →
        Taken f (page g) l l'
    unfolding kind_at upd2 upd
    page_taken {g} {l₁} {l'} a b =
        let row = row_low l s f hf in let row1 = row.1 in
        taken PAGE (λ e. omega arith) l' (upd2 (left_frames PAGE (λ e. omega arith)) GUEST f g) g (old_frames HEIGHT f)
        (old_frames RANGE f)
        (rw (b, a) (holds_frame (holds_left PAGE (λ e. omega arith)) GUEST f g (omega arith) row.0 (omega arith)))
        refl refl refl refl (sym (upd_self (old_frames HEIGHT) f)) (sym (upd_self (old_frames RANGE) f))
        (aside (aside_settled last PAGE last last_place.1 (left PAGE (λ e. omega arith))) GUEST f g (inl (omega arith)))

    pub table_taken : {g h p : ℕ} {l₁ l₂ l₃ l' : List ℕ} → l₁ ≡ settled l f last TABLE last → l₂ ≡ store HEADER_WORDS l₁ GUEST f g →
        l₃ ≡ store HEADER_WORDS l₂ HEIGHT f h → l' ≡ store HEADER_WORDS l₃ RANGE f p → Taken f (table g h p) l l'
    unfolding kind_at upd2 upd
    table_taken {g} {h} {p} {l₁} {l₂} {l₃} {l'} a b c d =
        let row = row_low l s f hf in let row1 = row.1 in
        let x = holds_frame (holds_frame (holds_frame (holds_left TABLE (λ e. omega arith)) GUEST f g (omega arith) row.0
        (omega arith)) HEIGHT f h (omega arith) row.0 (omega arith)) RANGE f p (omega arith) row.0 (omega arith) in
        taken TABLE (λ e. omega arith) l' (upd2 (upd2 (upd2 (left_frames TABLE (λ e. omega arith)) GUEST f g) HEIGHT f h) RANGE f p) g h p
        (rw (d, c, b, a) x) refl refl refl refl refl refl
        (aside (aside (aside (aside_settled last TABLE last last_place.1 (left TABLE (λ e. omega arith))) GUEST f g
        (inl (omega arith))) HEIGHT f h (inl (omega arith))) RANGE f p (inl (omega arith)))

  -- frame f, which is not free, becomes something else
  module _ (was : old_frames KIND f ≡ FREE → ⊥) where
    place_left : old_guests FREE_COUNT HEADER < size_of l
    place_left = room_left (size_of l) (old_frames KIND) (old_frames FRAME_AT) (old_frames PLACE) (old_guests FREE_COUNT HEADER) f
        s.free_set hf was

    pub next_place : {c : ℕ} → c ≡ old_guests FREE_COUNT HEADER → c < size_of l
    next_place {c} e = let a = place_left in omega arith

    pub freed : {c : ℕ} {l' : List ℕ} → c ≡ old_guests FREE_COUNT HEADER → l' ≡ settled l f c FREE (c + 1) →
        Changed (with_kind f free) l l'
    unfolding kind_at upd2 upd
    freed {c} {l'} e x =
        let a = joined in
        rw (x, e) (becomes (old_guests FREE_COUNT HEADER) FREE (old_guests FREE_COUNT HEADER + 1) place_left a
        (settled l f (old_guests FREE_COUNT HEADER) FREE (old_guests FREE_COUNT HEADER + 1))
        (new_frames (old_guests FREE_COUNT HEADER) FREE (old_guests FREE_COUNT HEADER + 1) place_left a) (old_frames GUEST f)
        (old_frames HEIGHT f) (old_frames RANGE f)
        (holds_settled (old_guests FREE_COUNT HEADER) FREE (old_guests FREE_COUNT HEADER + 1) place_left a)
        refl refl refl (sym (upd_self (old_frames GUEST) f)) (sym (upd_self (old_frames HEIGHT) f)) (sym (upd_self (old_frames RANGE) f))
        (aside_settled (old_guests FREE_COUNT HEADER) FREE (old_guests FREE_COUNT HEADER + 1) place_left a))
      where
        joined : FreeSet (size_of l) (upd (old_frames KIND) f FREE)
            (swapped (old_frames FRAME_AT) (old_frames PLACE) f (old_guests FREE_COUNT HEADER))
            (swapped (old_frames PLACE) (old_frames FRAME_AT) (old_guests FREE_COUNT HEADER) f) (old_guests FREE_COUNT HEADER + 1)
        joined = joined_set (size_of l) (old_frames KIND) (old_frames FRAME_AT) (old_frames PLACE) (old_guests FREE_COUNT HEADER) f
            s.free_set hf was

    pub relabelled : (k : ℕ) (l' : List ℕ) → (k ≡ FREE → ⊥) → l' ≡ store HEADER_WORDS l KIND f k →
        Changed (with_kind f (kind_at k (old_frames GUEST f) (old_frames HEIGHT f) (old_frames RANGE f))) l l'
    unfolding upd2 upd
    relabelled k l' now e =
        let row = row_low l s f hf in let row1 = row.1 in
        rw e (changed l (store HEADER_WORDS l KIND f k) (upd2 old_frames KIND f k) old_guests
        (holds_frame (holds_itself l) KIND f k (omega arith) row.0 (omega arith))
        (record {
          length_fits = s.length_fits;
          few = s.few;
          free_set = kept_set (size_of l) (old_frames KIND) (old_frames FRAME_AT) (old_frames PLACE) (old_guests FREE_COUNT HEADER) f k
              s.free_set was now;
        })
        (λ w. state_kind old_frames (upd2 old_frames KIND f k) old_guests w f k (old_frames GUEST f) (old_frames HEIGHT f)
        (old_frames RANGE f) hf refl (sym (upd_self (old_frames GUEST) f))
        (sym (upd_self (old_frames HEIGHT) f)) (sym (upd_self (old_frames RANGE) f)) (aside aside_none KIND f k (inl (omega arith)))))

  -- what f is turned by φ: as it was, or anew
  turned : (φ : KindOfFrame → KindOfFrame) (k : KindOfFrame) (l' : List ℕ) → φ (kind_of l f) ≡ k → Changed (with_kind f k) l l' →
      Changed (with_kind_by f φ) l l'
  turned φ k l' e c = changed_as c (λ ram. unfold with_kind_by state_in in ap (λ (x : KindOfFrame). with_kind f x (state_of ram l)) (sym e))

  unturned : (φ : KindOfFrame → KindOfFrame) → φ (kind_of l f) ≡ kind_of l f → Changed (with_kind_by f φ) l l
  unturned φ e = record { ledger_sound = s; state = λ ram. sym (same ram) }
    where
      same : (ram : List ℕ) → with_kind_by f φ (state_of ram l) ≡ state_of ram l
      same ram = unfold with_kind_by with_kind remade state_in in
          ap (λ (K : ℕ → KindOfFrame). remade (state_of ram l) K (state_of ram l).shared (state_of ram l).count (state_of ram l).exists
          (state_of ram l).root (state_of ram l).dirty (state_of ram l).word) (ap (upd (kind_of l) f) e ∙ upd_self (kind_of l) f)

  -- by the number k that the ledger has of f for guest g
  pub drain_none : (g k : ℕ) → k ≡ kind_for old_frames f g → (k ≡ TABLE → ⊥) → (k ≡ PAGE → ⊥) →
      Changed (with_kind_by f (drained g)) l l
  drain_none g k ek a b = unturned _ (rw (kind_here old_frames old_guests f hf)
      (stays (old_frames GUEST f) (old_frames HEIGHT f) (old_frames RANGE f) g (old_frames KIND f) (λ e. a (ek ∙ e)) (λ e. b (ek ∙ e))))

  pub release_none : (g k : ℕ) → k ≡ kind_for old_frames f g → (k ≡ DRAINING_TABLE → ⊥) → (k ≡ DRAINING_PAGE → ⊥) →
      Changed (with_kind_by f (released g)) l l
  release_none g k ek a b = unturned _ (rw (kind_here old_frames old_guests f hf)
      (remains (old_frames GUEST f) (old_frames HEIGHT f) (old_frames RANGE f) g (old_frames KIND f) (λ e. a (ek ∙ e)) (λ e. b (ek ∙ e))))

  -- by the kind k that the code has read of f for guest g, from the number n
  module _ (g n : ℕ) (k : Kind) (en : n ≡ kind_for old_frames f g) (named : kind_code k ≡ known_kind n) where
    ek : kind_code k ≡ known_kind (kind_for old_frames f g)
    ek = named ∙ ap known_kind en

    other : (j : Kind) → (k ≡ j → ⊥) → kind_for old_frames f g ≡ kind_code j → ⊥
    other j ne e = code_apart k j ne (ek ∙ ap known_kind e ∙ known_code j)

    is_it : (j : Kind) → k ≡ j → 0 < kind_code j → (eqb (old_frames GUEST f) g ≡ true) × (old_frames KIND f ≡ kind_code j)
    is_it j e pos = go (eqb (old_frames GUEST f) g) (sym ek ∙ ap kind_code e)
      where
        stored : (b : Bool) (n : ℕ) → cond b MONITOR n ≡ kind_code j → n ≡ kind_code j
        stored true n x = absurd (omega arith)
        stored false n x = x

        go : (b : Bool) → known_kind (cond b (old_frames KIND f) MONITOR) ≡ kind_code j → (b ≡ true) × (old_frames KIND f ≡ kind_code j)
        go true x = (refl, stored (ltb DRAINING_PAGE (old_frames KIND f)) (old_frames KIND f) x)
        go false x = absurd (omega arith)

    known : {A : Type 0} (φ : KindOfFrame → A) (j : Kind) (y : A) → k ≡ j → 0 < kind_code j →
        (eqb (old_frames GUEST f) g ≡ true →
        φ (kind_at (kind_code j) (old_frames GUEST f) (old_frames HEIGHT f) (old_frames RANGE f)) ≡ y) →
        φ (kind_of l f) ≡ y
    known φ j y e pos x = let a = is_it j e pos in rw (kind_here old_frames old_guests f hf, a.1) (x a.0)

    pub not_drained : (k ≡ Table → ⊥) → (k ≡ Page → ⊥) → Changed (with_kind_by f (drained g)) l l
    not_drained a b = drain_none g _ refl (other Table a) (other Page b)

    -- it becomes a kind that is not free
    drain_as : (j i : Kind) {d : ℕ} {l' : List ℕ} → k ≡ j → FREE < kind_code j → FREE < kind_code i →
        (eqb (old_frames GUEST f) g ≡ true →
        drained g (kind_at (kind_code j) (old_frames GUEST f) (old_frames HEIGHT f) (old_frames RANGE f)) ≡
        kind_at (kind_code i) (old_frames GUEST f) (old_frames HEIGHT f) (old_frames RANGE f)) →
        d ≡ kind_code i → l' ≡ store HEADER_WORDS l KIND f d →
        Changed (with_kind_by f (drained g)) l l'
    drain_as j i {d} {l'} e low low' to ed x =
        let a = is_it j e (omega arith) in let a1 = a.1 in
        turned _ _ l' (known (drained g) j _ e (omega arith) to)
        (relabelled (λ (y : old_frames KIND f ≡ FREE). omega arith) (kind_code i) l' (λ (y : kind_code i ≡ FREE). omega arith)
        (x ∙ ap (store HEADER_WORDS l KIND f) ed))

    pub drain_one : {d : ℕ} {l' : List ℕ} → (k ≡ Table) ⊎ (k ≡ Page) → d ≡ draining (kind_code k) → l' ≡ store HEADER_WORDS l KIND f d →
        Changed (with_kind_by f (drained g)) l l'
    drain_one (inl e) ed x = drain_as Table DrainingTable e (omega arith) (omega arith) (λ t. unfold kind_at drained in rw t)
        (rw e at ed) x
    drain_one (inr e) ed x = drain_as Page DrainingPage e (omega arith) (omega arith) (λ t. unfold kind_at drained in rw t) (rw e at ed) x

    pub not_released : (k ≡ DrainingTable → ⊥) → (k ≡ DrainingPage → ⊥) → Changed (with_kind_by f (released g)) l l
    not_released a b = release_none g _ refl (other DrainingTable a) (other DrainingPage b)

    pub not_free : (k ≡ DrainingTable) ⊎ (k ≡ DrainingPage) → is_free (kind_of l f) ≡ false
    not_free (inl e) = known is_free DrainingTable false e (omega arith) (λ _. unfold kind_at in refl)
    not_free (inr e) = known is_free DrainingPage false e (omega arith) (λ _. unfold kind_at in refl)

    pub release_one : {l' : List ℕ} → (k ≡ DrainingTable) ⊎ (k ≡ DrainingPage) → Changed (with_kind f free) l l' →
        Changed (with_kind_by f (released g)) l l'
    release_one {l'} which c = turned _ free l' (to which) c
      where
        to : (k ≡ DrainingTable) ⊎ (k ≡ DrainingPage) → released g (kind_of l f) ≡ free
        to (inl y) = known (released g) DrainingTable free y (omega arith) (λ t. unfold kind_at released in rw t)
        to (inr y) = known (released g) DrainingPage free y (omega arith) (λ t. unfold kind_at released in rw t)
