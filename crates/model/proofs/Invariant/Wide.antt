-- Words stay numbers of 64 bits, whatever is called and stored: so there are bytes that hold them.
use mathlib.Core.Path.{◌≡◌, refl}
use mathlib.Core.Logic.{inl, inr}
use Prim.Native.Nat.{ℕ, zero, suc, ◌+◌, ◌*◌, ◌≤◌, ◌<◌, ◌/◌, ◌%◌, ◌^◌}
use native.Mathlib.Omega.{arith}
use borrow.Author.Tests.{leb-true}
use Rattle.model.proofs.Laws.Base.{eq?}
use Rattle.model.specs.Base.{upd, upd2}
use Rattle.model.proofs.Laws.Base.{upd_at, upd_other, upd2_at, upd2_other}
use Rattle.model.specs.State.{State, free, table, page_count, put_byte, free_frames}
use Rattle.model.specs.Entry.{table_entry, page_entry}
use Rattle.model.specs.Translate.{upper, index, translate, missing_from, missing}
use Rattle.model.specs.Changes.{Choice, zeros, becomes, with_root, with_table, grow, with_page, with_mapping, without_page, without_guest, clean}
use Rattle.model.specs.Operations.{create, give, map, unmap, share, unshare, take, destroy, invalidated}
use Rattle.model.specs.Cache.{nothing_kept}
use Rattle.model.specs.Machine.{Machine, Operation, Create, Give, Take, Map, Unmap, Share, Unshare, Destroy, Invalidated, answer, Chooses, stored, Run}
use Rattle.model.specs.Invariant.{Core}
use Rattle.model.proofs.Invariant.Core.{in_room}
use Rattle.model.proofs.Invariant.Answer.{Then, then_done, checked, may_is}
use Rattle.model.proofs.Invariant.Pages.{may_room}
use Rattle.model.proofs.Invariant.MapUnmap.{address_low, some_is, without_is, grown_for}
use Rattle.model.proofs.Invariant.Way.{root_serves, translate_from}
use Rattle.model.proofs.Invariant.Grow.{Links, linked, grow_by}
use Rattle.model.proofs.Invariant.Holds.{Holds, StoresKeep, nothing_ok, run_keeps}

abbrev pub Wide : (ℕ → ℕ → ℕ) → Type 0
Wide w = (f i : ℕ) → w f i < 2 ^ 64

zeros_wide : (i : ℕ) → zeros i < 2 ^ 64
unfolding zeros
zeros_wide i = omega arith

module _ (w : ℕ → ℕ → ℕ) (h : Wide w) where
  frame_wide : (k : ℕ) → Wide (upd w k zeros)
  frame_wide k f i = elim (eq? f k) [
    | inl e ↦ rw (upd_at w k zeros f e) (zeros_wide i)
    | inr e ↦ rw (upd_other w k zeros f e) (h f i)
  ]

  word_wide : (k j x : ℕ) → x < 2 ^ 64 → Wide (upd2 w k j x)
  word_wide k j x l f i = elim (eq? f k) [
    | inr e ↦ rw (upd2_other w k j x f i (λ p q. e p)) (h f i)
    | inl e ↦ elim (eq? i j) [
      | inr d ↦ rw (upd2_other w k j x f i (λ p q. d q)) (h f i)
      | inl d ↦ rw (upd2_at w k j x f i e d) l
    ]
  ]

table_wide : (first t : ℕ) → first + t < page_count → table_entry first t < 2 ^ 64
unfolding table_entry
table_wide first t l = omega arith

page_wide : (first f r : ℕ) → first + f < page_count → page_entry first f r < 2 ^ 64
unfolding page_entry
page_wide first f r l = omega arith

-- the numbers of n bytes
unfoldable room : ℕ → ℕ
room zero = 1
room (suc n) = 256 * room n

put_wide : (n k w x : ℕ) → k < n → w < room n → x < 256 → put_byte k w x < room n
unfolding room put_byte
put_wide zero k w x l h b = absurd (omega arith)
put_wide (suc n) zero w x l h b = omega arith
put_wide (suc n) (suc k) w x l h b = let z = put_wide n k (w / 256) x (omega arith) (omega arith) b in omega arith

byte_wide : (k w x : ℕ) → k < 8 → w < 2 ^ 64 → x < 256 → put_byte k w x < 2 ^ 64
byte_wide k w x l h b = unfold room in put_wide 8 k w x l h b

-- the tables that map makes
abbrev Widens : (h : ℕ) (s : State) (g t v : ℕ) (pick : ℕ → ℕ) → Type 0
Widens h s g t v pick = Wide s.word → Wide (grow h s g t v pick).state.word

linked_wide : (h : ℕ) (s : State) (g t v : ℕ) (pick : ℕ → ℕ) → Links h s g t v pick → Wide s.word → Wide (linked h s g t v pick).word
unfolding with_table
linked_wide h s g t v pick x w = word_wide (upd s.word (pick 0) zeros) (frame_wide s.word w (pick 0)) t (index (suc h) v)
    (table_entry s.first (pick 0)) (table_wide s.first (pick 0) (in_room s x.core (pick 0) free x.spare refl))

grow_wide : (h : ℕ) (s : State) → Core s → (g t v : ℕ) (pick : ℕ → ℕ) → Choice s pick → missing_from s h t v ≤ free_frames s →
    s.kind t ≡ table g h (upper (suc h) v) → Widens h s g t v pick
unfolding grow
grow_wide = grow_by Widens (λ s c g t v pick a w. w) (λ h s c g t v pick a t' d e w. rw d (e w))
    (λ h s g t v pick x e w. rw x.was (e (linked_wide h s g t v pick x w)))

module _ (s : State) (c : Core s) (w : Wide s.word) where
  answer_wide : (o : Operation) → Chooses s o → Then (λ s. Wide s.word) (answer s o)
  unfolding answer create give take share unshare destroy invalidated map unmap with_root becomes with_mapping with_page without_page
      without_guest clean
  answer_wide (Create g pick) ch = checked 1 λ e1. checked 2 λ e2. checked 3 λ e3. then_done (frame_wide s.word w (pick 0))
  answer_wide (Give f g) ch = checked 5 λ e1. checked 4 λ e2. checked 6 λ e3. then_done (frame_wide s.word w f)
  answer_wide (Take f g) ch = checked 5 λ e1. checked 4 λ e2. checked 9 λ e3. checked 13 λ e4. then_done w
  answer_wide (Map f g a r pick) ch = checked 5 λ e1. checked 14 λ e2. checked 7 λ e3. checked 8 λ e4. checked 4 λ e5. checked 9 λ e6.
      checked 10 λ e7. checked 3 λ e8.
      let v = a / 4096 in
      let x = grow 3 s g (s.root g) v pick in
      let enough = leb-true (missing s g v) (free_frames s) e8 in
      let z = grown_for s c nothing_kept (nothing_ok s) g v pick e1 (address_low a e3) ch enough in
      let tables : Wide x.state.word = grow_wide 3 s c g (s.root g) v pick ch enough
      (root_serves (s.kind (s.root g)) g v (c.roots g e1) (address_low a e3)) w in
      then_done (word_wide x.state.word tables x.last (v % 512) (page_entry x.state.first f r)
      (page_wide x.state.first f r (may_room x.state z.core g f r (z.may g f r (may_is s g f r e6)))))
  answer_wide (Unmap a g) ch = checked 5 λ e1. checked 7 λ e2. checked 11 λ e3.
      let o = some_is (translate s g (a / 4096)) e3 in
      let at = translate_from s g (a / 4096) o.0 o.1 o.2 in
      rw (without_is s c g (a / 4096) at.0 o.0 o.1 at.1 o.2)
      (then_done (word_wide s.word w at.0 (a / 4096 % 512) 0 (omega arith)))
  answer_wide (Share g f h u) ch = checked 5 λ e1. checked 12 λ e2. checked 4 λ e3. checked 9 λ e4. checked 13 λ e5. checked 14 λ e6.
      then_done w
  answer_wide (Unshare g f h) ch = checked 5 λ e1. checked 4 λ e2. checked 9 λ e3. checked 13 λ e4. checked 14 λ e5. then_done w
  answer_wide (Destroy g) ch = checked 5 λ e1. checked 13 λ e2. then_done w
  answer_wide (Invalidated g) ch = checked 1 λ e1. then_done w

pub run_wide : {m z : Machine} → Run m z → Holds m → Wide m.state.word → Wide z.state.word
run_wide = run_keeps (λ s. Wide s.word) (λ s c w. answer_wide s c w) written
  where
    written : StoresKeep (λ s. Wide s.word)
    written m h w g f o x n b a = unfold stored in
        word_wide m.state.word w f (o / 8) (put_byte (o % 8) (m.state.word f (o / 8)) x)
        (byte_wide (o % 8) (m.state.word f (o / 8)) x (omega arith) (w f (o / 8)) b)
