-- How many free frames map needs, takes and finds missing.
use mathlib.Core.Path.{◌≡◌, refl}
use mathlib.Core.Bool.{Bool, true, false, not}
use Prim.Native.Nat.{ℕ, zero, suc, ◌+◌, ◌≤◌, ◌<◌, ◌/◌}
use native.Mathlib.Omega.{arith}
use native.Mathlib.Nat.{add-zero}
use lib.Dec.{ltb, leb}
use borrow.Author.Tests.{leb-true, leb-false}
use Rattle.model.specs.State.{State, table, free_frames}
use Rattle.model.specs.Entry.{Entry, empty, to_table, to_page, other}
use Rattle.model.specs.Translate.{upper, index, entry_at, into, missing_from, missing, mapped}
use Rattle.model.specs.Changes.{Choice, grow, with_page, with_mapping}
use Rattle.model.specs.Operations.{Out, refuse, done, check, page_address, is_rights, may_map, map}
use Rattle.model.specs.Invariant.{Core}
use Rattle.model.proofs.Invariant.Way.{root_serves}
use Rattle.model.proofs.Invariant.Choice.{fewer}
use Rattle.model.proofs.Invariant.Grow.{Links, linked, grow_by}
use Rattle.model.proofs.Invariant.MapUnmap.{address_low}
use Rattle.model.proofs.Invariant.Answer.{Then, then_done, checked}

pub missing_low : (s : State) (h t v : ℕ) → missing_from s h t v ≤ h
unfolding missing_from
missing_low s zero t v = omega arith
missing_low s (suc h) t v = go (missing_low s h) (entry_at s t (index (suc h) v))
  where
    go : ((t v : ℕ) → missing_from s h t v ≤ h) → (x : Entry) → into x (suc h) (λ t'. missing_from s h t' v) ≤ suc h
    go ih empty = omega arith
    go ih (to_table t') = let a = ih t' v in omega arith
    go ih (to_page f r) = omega arith
    go ih (other x) = omega arith

abbrev Takes : (h : ℕ) (s : State) (g t v : ℕ) (pick : ℕ → ℕ) → Type 0
Takes h s g t v pick = free_frames (grow h s g t v pick).state + missing_from s h t v ≡ free_frames s

takes_made : (h : ℕ) (s : State) (g t v : ℕ) (pick : ℕ → ℕ) → Links h s g t v pick →
    Takes h (linked h s g t v pick) g (pick 0) v (λ j. pick (suc j)) → Takes (suc h) s g t v pick
unfolding grow missing_from
takes_made h s g t v pick x e =
    let l = x.enough in
    let n = x.all_missing in
    let less = fewer s x.core pick x.chosen (omega arith) t (index (suc h) v) g h (upper (suc h) v) in
    rw x.was (omega arith)

grow_takes : (h : ℕ) (s : State) → Core s → (g t v : ℕ) (pick : ℕ → ℕ) → Choice s pick → missing_from s h t v ≤ free_frames s →
    s.kind t ≡ table g h (upper (suc h) v) → Takes h s g t v pick
unfolding grow missing_from
grow_takes = grow_by Takes (λ s c g t v pick a. add-zero (free_frames s)) (λ h s c g t v pick a t' w e. rw w e) takes_made

pub map_takes : (s : State) (c : Core s) (f g a r : ℕ) (pick : ℕ → ℕ) → Choice s pick →
    Then (λ s'. free_frames s' + missing s g (a / 4096) ≡ free_frames s) (map s f g a r pick)
unfolding map with_mapping with_page free_frames
map_takes s c f g a r pick ch =
    checked 5 λ e1. checked 14 λ e2. checked 7 λ e3. checked 8 λ e4. checked 4 λ e5. checked 9 λ e6. checked 10 λ e7. checked 3 λ e8.
    then_done (grow_takes 3 s c g (s.root g) (a / 4096) pick ch (leb-true (missing s g (a / 4096)) (free_frames s) e8)
    (root_serves (s.kind (s.root g)) g (a / 4096) (c.roots g e1) (address_low a e3)))

-- 3 is the last line's number and no other's
pub only_short : (s : State) (f g a r : ℕ) (pick : ℕ → ℕ) → map s f g a r pick ≡ refuse 3 → free_frames s < missing s g (a / 4096)
unfolding map
only_short s f g a r pick e =
    past (s.exists g) 5 (omega arith) e λ e. past (not (s.dirty g)) 14 (omega arith) e λ e. past (page_address a) 7 (omega arith) e λ e.
    past (is_rights r) 8 (omega arith) e λ e.
    past (ltb f s.size) 4 (omega arith) e λ e. past (may_map s f g r) 9 (omega arith) e λ e. past (not (mapped s g (a / 4096))) 10
    (omega arith) e λ e. last (leb (missing s g (a / 4096)) (free_frames s)) refl e
  where
    past : {P : Type 0} (b : Bool) (k : ℕ) {o : Out} → (k ≡ 3 → ⊥) → check b k o ≡ refuse 3 → (o ≡ refuse 3 → P) → P
    past true k ne e then_do = then_do (unfold check in e)
    past false k ne e then_do = absurd (ne (let q : refuse k ≡ refuse 3 = unfold check in e in cc))

    last : (b : Bool) → leb (missing s g (a / 4096)) (free_frames s) ≡ b →
        check b 3 (done (with_mapping s f g (a / 4096) r pick)) ≡ refuse 3 → free_frames s < missing s g (a / 4096)
    last true q e = let x : done (with_mapping s f g (a / 4096) r pick) ≡ refuse 3 = unfold check in e in let z : ◌≡◌ {A = ℕ} 0 1 =
        cc in absurd (omega arith)
    last false q e = leb-false (missing s g (a / 4096)) (free_frames s) q
