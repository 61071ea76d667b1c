-- Laws of specs/NewTable.
use mathlib.Core.Path.{◌≡◌, refl, sym, ap, subst, ◌∙◌}
use mathlib.Core.Bool.{true}
use mathlib.Core.List.{List}
use Prim.Native.Nat.{ℕ, zero, suc, ◌+◌, ◌*◌, ◌-◌, ◌<◌, ◌≤◌, ◌/◌, ◌%◌, ◌^◌}
use native.Mathlib.Omega.{arith}
use native.Mathlib.Nat.{div-add-mod'}
use lib.ListN.{length}
use Rattle.model.specs.Base.{upd, upd2}
use Rattle.model.proofs.Laws.Base.{upd_same, upd_other}
use Rattle.model.specs.State.{State, KindOfFrame, free, table, page, page_count, is_guest, free_frames}
use Rattle.model.specs.Entry.{empty, table_entry}
use Rattle.model.specs.Translate.{upper, index, entry_at}
use Rattle.model.specs.Changes.{zeros, with_table, grow}
use Rattle.model.proofs.Laws.Ways.{grow_new, reads_empty}
use Rattle.model.specs.Invariant.{Core}
use Rattle.model.proofs.Invariant.Core.{low}
use Rattle.model.proofs.Invariant.Kinds.{clash}
use Rattle.model.proofs.Invariant.Choice.{free_less}
use Rattle.model.proofs.Invariant.NewTable.{linked_core, linked_new, linked_keep}
use Rattle.ledger.specs.Columns.{GUEST_ROWS}
use Rattle.ledger.proofs.Laws.Fields.{guest_low}
use Rattle.ledger.specs.Layout.{size_of, first_of, kind_of, word_of, pick_of, state_in, state_of}
use Rattle.ledger.specs.Fields.{remade, with_kind, with_words}
use Rattle.ledger.specs.LedgerSound.{Taken}
use Rattle.ledger.specs.Words.{Within}
use Rattle.ledger.proofs.Laws.Words.{state_words}
use Rattle.ledger.specs.Sound.{Sound}
use Rattle.ledger.proofs.Laws.Sound.{free_is, within}
use Rattle.monitor_tables.specs.NewTable.{Placed, Blank, Growing, Made}

pub blank : (m m₁ : List ℕ) (u : ℕ) → word_of m₁ ≡ upd (word_of m) u zeros → Blank m₁ u
unfolding zeros
blank m m₁ u e = record { zero_at = λ j. ap (λ (x : ℕ → ℕ → ℕ). x u j) e ∙ ap (λ (x : ℕ → ℕ). x j) (upd_same (word_of m) u zeros) }

pub then_linked : (m m₁ m₂ : List ℕ) (u t i x : ℕ) → word_of m₁ ≡ upd (word_of m) u zeros → word_of m₂ ≡ upd2 (word_of m₁) t i x →
    word_of m₂ ≡ upd2 (upd (word_of m) u zeros) t i x
then_linked m m₁ m₂ u t i x e q = q ∙ ap (λ (X : ℕ → ℕ → ℕ). upd2 X t i x) e

upper_less : (h v : ℕ) → upper h v ≤ v
unfolding upper
upper_less zero v = omega arith
upper_less (suc h) v = let a = upper_less h v in omega arith

module _ {m l : List ℕ} {g v h t : ℕ} (w : Growing m l g v h t) where
  pub grow_guest : is_guest g ≡ true
  grow_guest = w.sound.core.guests_only g (w.sound.core.table_exists t g h (upper (suc h) v) w.serves)

  pub grow_row : g < GUEST_ROWS
  grow_row = (guest_low g grow_guest).1

  pub grow_low : t < size_of l
  grow_low = unfold state_in in low (state_of m l) w.sound.core t (table g h (upper (suc h) v)) w.serves refl

  pub grow_words : (t < page_count) × Within m t
  grow_words = let k = grow_low in let few = w.sound.ledger_sound.few in (omega arith, within m l w.sound t k)

  pub grow_room : (first f : ℕ) → first ≡ first_of l → f < size_of l → first + f < page_count
  grow_room first f e k = let room : first_of l + size_of l ≤ page_count = unfold state_in in w.sound.core.room in omega arith

  pub grow_range : 0 < h → (p : ℕ) → p ≡ upper h v → p < 2 ^ 27
  grow_range k p e = go h k e
    where
      go : (h : ℕ) → 0 < h → p ≡ upper h v → p < 2 ^ 27
      go zero k e = absurd (omega arith)
      go (suc h) k e = let a = upper_less h v in let b = w.page_low in let c : p ≡ upper h v / 512 = unfold upper in e in omega arith

-- one table
module _ {m l : List ℕ} {g v k t : ℕ} (w : Growing m l g v (suc k) t) {p u : ℕ} (ep : p ≡ upper (suc k) v) (low_u : u < size_of l)
    (free_u : kind_of l u ≡ free)
    {l' : List ℕ} (taken : Taken u (table g k p) l l') where
  kinds : kind_of l' ≡ upd (kind_of l) u (table g k p)
  kinds = unfold state_in with_kind remade in ap (λ (x : State). x.kind) (taken.changes.state m)

  first_is : first_of l' ≡ first_of l
  first_is = unfold state_in with_kind remade in ap (λ (x : State). x.first) (taken.changes.state m)

  serving : kind_of l t ≡ table g (suc k) (upper (suc (suc k)) v)
  serving = unfold state_in in w.serves

  apart : t ≡ u → ⊥
  apart e = clash {x = free} {y = table g (suc k) (upper (suc (suc k)) v)} (sym free_u ∙ ap (kind_of l) (sym e) ∙ serving) refl

  one_up : upper (suc (suc k)) v ≡ p / 512
  unfolding upper
  one_up = ap (λ (x : ℕ). x / 512) (sym ep)

  placed_new : Placed l' t (p % 512) u
  placed_new = record {
    guest = g;
    height = k;
    range = p;
    above = ap (λ (x : ℕ → KindOfFrame). x t) kinds ∙ upd_other (kind_of l) u (table g k p) t apart ∙ serving ∙ ap (table g (suc k)) one_up;
    below = ap (λ (x : ℕ → KindOfFrame). x u) kinds ∙ upd_same (kind_of l) u (table g k p);
    place = refl;
  }

  module _ (eu : u ≡ pick_of l 0) (m' : List ℕ) (w2 : word_of m' ≡
      upd2 (upd (word_of m) u zeros) t (p % 512) (table_entry (first_of l') u)) (len : length m' ≡ length m) where
    abbrev before : State
    before = state_of m l

    abbrev new_words : ℕ → ℕ → ℕ
    new_words = upd2 (upd (word_of m) u zeros) t (index (suc k) v) (table_entry (first_of l) u)

    abbrev after : State
    after = with_table before t (index (suc k) v) u g k (upper (suc k) v)

    words : word_of m' ≡ new_words
    words =
        w2 ∙ ap (λ (y : ℕ). upd2 (upd (word_of m) u zeros) t (y % 512) (table_entry (first_of l') u)) ep
        ∙ ap (λ (y : ℕ). upd2 (upd (word_of m) u zeros) t (index (suc k) v) (table_entry y u)) first_is

    same : with_kind u (table g k (upper (suc k) v)) (with_words new_words before) ≡ after
    unfolding with_kind with_words remade with_table state_in
    same = refl

    state : state_of m' l' ≡ after
    state =
        taken.changes.state m' ∙ ap (with_kind u (table g k p)) (state_words m m' l new_words words)
        ∙ ap (λ (y : ℕ). with_kind u (table g k y) (with_words new_words before)) ep ∙ same

    was : entry_at before t (index (suc k) v) ≡ empty
    was = reads_empty before t (index (suc k) v) (w.nothing_yet (omega arith))

    free_before : before.kind u ≡ free
    free_before = unfold state_in in free_u

    range : upper (suc (suc k)) v * 512 + index (suc k) v ≡ upper (suc k) v
    unfolding upper
    range = div-add-mod' (upper k v / 512) 512

    size_is : size_of l' ≡ size_of l
    size_is = unfold state_in with_table in ap (λ (x : State). x.size) state

    fewer : free_frames after + 1 ≡ free_frames before
    unfolding free_frames with_table state_in
    fewer = free_less (size_of l) (kind_of l) u (table g k (upper (suc k) v)) low_u free_u refl

    still : Sound m' l'
    still = record {
      ledger_sound = taken.changes.ledger_sound;
      ram_fits = let a = w.sound.ram_fits in let b = size_is in omega arith;
      core = subst (λ (x : State). Core x) (sym state) (linked_core before w.sound.core t (index (suc k) v) u g k
          (upper (suc (suc k)) v)
          (upper (suc k) v) w.serves (omega arith) was range free_before);
    }

    grown : Growing m' l' g v k u
    grown = record {
      sound = still;
      high = let a = w.high in omega arith;
      page_low = w.page_low;
      serves = ap (λ (x : State). x.kind u) state ∙ (unfold with_table in upd_same before.kind u (table g k (upper (suc k) v)));
      nothing_yet = λ _. ap (λ (x : State). x.word u (index k v)) state
          ∙ linked_new before w.sound.core t (index (suc k) v) u g k (upper (suc (suc k)) v) (upper (suc k) v) w.serves
          (omega arith)
          was range free_before u refl (index k v);
      enough =
          let a = w.enough in
          let b = free_is l w.sound.ledger_sound m in
          let c = free_is l' taken.changes.ledger_sound m' in
          let d = ap free_frames state in
          let e = fewer in
          omega arith;
    }

    goes_on : grow (suc k) before g t v (pick_of l) ≡ grow k (state_of m' l') g u v (pick_of l')
    goes_on =
        grow_new before k t v g (pick_of l) was
        ∙ ap (λ (y : ℕ). grow k (with_table before t (index (suc k) v) y g k (upper (suc k) v)) g y v (λ j. pick_of l (suc j))) (sym eu)
        ∙ ap (λ (y : State). grow k y g u v (λ j. pick_of l (suc j))) (sym state)
        ∙ ap (λ (y : ℕ → ℕ). grow k (state_of m' l') g u v y) (sym (taken.next eu))

    stay : (f o : ℕ) → before.kind f ≡ page o → (state_of m' l').kind f ≡ page o
    stay f o e =
        ap (λ (x : State). x.kind f) state
        ∙ linked_keep before w.sound.core t (index (suc k) v) u g k (upper (suc (suc k)) v) (upper (suc k) v) w.serves
        (omega arith) was
        range free_before f (page o) e refl

-- of a height above 0
module _ {m l : List ℕ} {g v h t : ℕ} (w : Growing m l g v h t) (pos : 0 < h) where
  high_is : h ≡ suc (h - 1)
  high_is = omega arith

  growing_so : Growing m l g v (suc (h - 1)) t
  growing_so = subst (λ (y : ℕ). Growing m l g v y t) high_is w

  module _ {p u : ℕ} (ep : p ≡ upper h v) (low_u : u < size_of l) (free_u : kind_of l u ≡ free) {l' : List ℕ}
      (taken : Taken u (table g (h - 1) p) l l') where
    upper_so : p ≡ upper (suc (h - 1)) v
    upper_so = ep ∙ ap (λ (y : ℕ). upper y v) high_is

    pub make_placed : Placed l' t (p % 512) u
    make_placed = placed_new growing_so upper_so low_u free_u taken

    pub make_room : first_of l' + u < page_count
    make_room =
        let e = first_is growing_so upper_so low_u free_u taken in
        let k = grow_room w (first_of l) u refl low_u in
        omega arith

    pub make_end : u ≡ pick_of l 0 → (m' : List ℕ) → word_of m' ≡
        upd2 (upd (word_of m) u zeros) t (p % 512) (table_entry (first_of l') u) → length m' ≡ length m → Made m l g v h t u m' l'
    make_end eu m' w2 len = record {
      growing = grown growing_so upper_so low_u free_u taken eu m' w2 len;
      grows = ap (λ (y : ℕ). grow y (state_of m l) g t v (pick_of l)) high_is
          ∙ goes_on growing_so upper_so low_u free_u taken eu m' w2 len;
      pages_stay = stay growing_so upper_so low_u free_u taken eu m' w2 len;
    }

-- what a new table asks of where the doing stands
pub ruleset grows_so = (grow_row, grow_range, grow_words, make_placed, make_room)
