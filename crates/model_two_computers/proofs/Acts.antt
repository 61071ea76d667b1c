-- Why it holds: an act from the same knowledge is the same act; it reads the same, and stores the same to frames that correspond.
use mathlib.Core.Path.{◌≡◌, refl, sym, ap, ◌∙◌}
use mathlib.Core.Bool.{true}
use mathlib.Core.Logic.{◌⊎◌, inl, inr}
use mathlib.Core.List.{List, ◌∷◌}
use Prim.Native.Nat.{ℕ, ◌+◌, ◌*◌, ◌<◌, ◌/◌, ◌%◌}
use native.Mathlib.Omega.{arith}
use Rattle.model.specs.State.{byte_of}
use Rattle.model.specs.Cache.{Access, writing, grants}
use Rattle.model_moves.specs.Cache.{Reach}
use Rattle.model_moves.specs.Machine.{Machine, with_spaces, byte_stored}
use Rattle.model_moves.specs.Terms.{Bounded}
use Rattle.model_two_computers.specs.Terms.{Frames, Two, ends, both, stored, At, Settled, byte}
use Rattle.model_two_computers.specs.Programs.{Act, read, write, ask, News, got, done, fault, told, Program, Needs, Outcome, served, refused, Acts, reads, writes, faults, SettledOn, Loop, rests, acts, tells, meanwhile}
use Rattle.model_two_computers.proofs.Paired.{Paired, turned}
use Rattle.model_two_computers.proofs.Reading.{run_paired, both_read, finds_too, are_runs, run_bounded, append}
use Rattle.model_moves.proofs.Invariant.Entries.{same_frame}

reaches : (m : Machine) (c v f r o : ℕ) → o < 4096 → At m c v (m.spaces.first + f) r → grants r writing ≡ true →
    Reach m.spaces m.caches c writing ((m.spaces.first + f) * 4096 + o)
unfolding Reach
reaches m c v f r o l a g = let e : ((m.spaces.first + f) * 4096 + o) / 4096 ≡ m.spaces.first + f = omega arith in (v, r, rw e a, g)

read_is : {a : Act} {w w' : Access} {v v' o o' : ℕ} → a ≡ read w v o → a ≡ read w' v' o' → (v ≡ v') × (o ≡ o')
read_is {a} {w} {w'} {v} {v'} {o} {o'} e q = (cc, cc)

write_is : {a : Act} {v v' o o' b b' : ℕ} → a ≡ write v o b → a ≡ write v' o' b' → (v ≡ v') × (o ≡ o') × (b ≡ b')
write_is {a} {v} {v'} {o} {o'} {b} {b'} e q = (cc, cc, cc)

not_both : {a : Act} {w : Access} {v v' o o' b : ℕ} → a ≡ read w v o → a ≡ write v' o' b → ⊥
not_both {a} {w} {v} {v'} {o} {o'} {b} e q = let z : ◌≡◌ {A = ℕ} 0 1 = cc in omega arith

not_same : served ≡ refused → ⊥
not_same e = let z : ◌≡◌ {A = ℕ} 0 1 = cc in omega arith

-- an act that is served on one of them is served on the other, where its page is settled there
module _ {c : ℕ} {R : Frames} {y z : Machine} (q : Paired c R y z) (b : Bounded z) where
  clashes : (a : Act) (w : Access) (v x r : ℕ) → Needs a w v → Settled z c v → At y c v x r → grants r w ≡ true → (w' : Access) (v' : ℕ) →
      Needs a w' v' → ((x r : ℕ) → At z c v' x r → grants r w' ≡ true → ⊥) → ⊥
  clashes (read w v o) w₁ v₁ x r n s t g w₂ v₂ n' un =
      let f = finds_too q b v₁ x r s t in un f.0 r (rw (← n'.1) (rw n.1 f.1)) (ap (grants r) (sym n'.0 ∙ n.0) ∙ g)
  clashes (write v o i) w₁ v₁ x r n s t g w₂ v₂ n' un =
      let f = finds_too q b v₁ x r s t in un f.0 r (rw (← n'.1) (rw n.1 f.1)) (ap (grants r) (sym n'.0 ∙ n.0) ∙ g)
  clashes (ask i) w₁ v₁ x r n s t g w₂ v₂ n' un = n

settled_at : (y z : Machine) (c : ℕ) (a : Act) (w : Access) (v : ℕ) → Needs a w v → SettledOn y z c a → Settled y c v × Settled z c v
settled_at y z c (read w v o) w' v' n s = rw (← n.1) s
settled_at y z c (write v o b) w' v' n s = rw (← n.1) s
settled_at y z c (ask i) w' v' n s = absurd n

-- nothing, or one store to a pair
pub data Store (R : Frames) (y z : Machine) : (y' z' : Machine) → Type 1 where
  nothing : Store R y z y z
  one : (d f f' o b : ℕ) (l : o < 4096) (w : Reach y.spaces y.caches d writing ((y.spaces.first + f) * 4096 + o))
      (w' : Reach z.spaces z.caches d writing ((z.spaces.first + f') * 4096 + o)) → R f f' →
      Store R y z (with_spaces y (byte_stored y.spaces f o b)) (with_spaces z (byte_stored z.spaces f' o b))

store_two : {R : Frames} {y z y₁ z₁ : Machine} (c : ℕ) → Store R y z y₁ z₁ → Two c R y z R y₁ z₁
store_two c nothing = ends
store_two c (one d f f' o b l w w' k) = both _ _ (stored d d f f' o b l w w' k) ends

module _ (p : Program) (c : ℕ) where
  -- one act of each, from the same knowledge: they learn the same, and store the same
  pub act_same : {R : Frames} {y z : Machine} {xs ys xs₁ ys₁ : List News} {y₁ z₁ : Machine} {k k' : Outcome} → xs ≡ ys →
      Paired c R y z → Bounded y → Bounded z →
      Acts p c xs y k xs₁ y₁ → Acts p c ys z k' ys₁ z₁ → (k ≡ k') ⊎ SettledOn y z c (p xs) → (xs₁ ≡ ys₁) × Store R y z y₁ z₁
  act_same {R} {y} {z} {xs} {ys} e q by bz (reads w v o f r i l a g) (reads w' v' o' f' r' i' l' a' g') alike =
      let s = read_is i (ap p e ∙ i') in
      let b : At z c v (z.spaces.first + f') r' = rw s.0 a' in
      let d = (both_read q v (y.spaces.first + f) r (z.spaces.first + f') r' a b).1 in
      let f= = same_frame y.spaces.first d.f f (y.spaces.first + f) d.here refl in
      let f'= = same_frame z.spaces.first d.f' f' (z.spaces.first + f') d.there refl in
      let same : (j : ℕ) → y.spaces.word f j ≡ z.spaces.word f' j = λ j. ap (λ (n : ℕ). y.spaces.word n j) (sym f=) ∙ d.same j
      ∙ ap (λ (n : ℕ). z.spaces.word n j) f'= in (
        ap (λ (n : ℕ). got n ∷ xs) (ap (byte_of (o % 8)) (same (o / 8)) ∙ ap (λ (n : ℕ). byte z.spaces f' n) s.1)
            ∙ ap (λ (t : List News). got (byte z.spaces f' o') ∷ t) e,
        nothing,
      )
  act_same {R} {y} {z} {xs} {ys} e q by bz (writes v o b f r i l a g) (writes v' o' b' f' r' i' l' a' g') alike =
      let s = write_is i (ap p e ∙ i') in
      let a'' : At z c v (z.spaces.first + f') r' = rw s.0 a' in
      let d = (both_read q v (y.spaces.first + f) r (z.spaces.first + f') r' a a'').1 in
      let f= = same_frame y.spaces.first d.f f (y.spaces.first + f) d.here refl in
      let f'= = same_frame z.spaces.first d.f' f' (z.spaces.first + f') d.there refl in
      let k : R f f' = rw f= at (rw f'= at d.pair) in
      let t : Store R y z (with_spaces y (byte_stored y.spaces f o b))
      (with_spaces z (byte_stored z.spaces f' o b)) = one c f f' o b l (reaches y c v f r o l a g)
      (reaches z c v f' r' o l a'' g') k in
      (ap (λ (t : List News). done ∷ t) e, rw (← s.1) (rw (← s.2) t))
  act_same e q by bz (reads w v o f r i l a g) (writes v' o' b' f' r' i' l' a' g') alike = absurd (not_both i (ap p e ∙ i'))
  act_same e q by bz (writes v o b f r i l a g) (reads w' v' o' f' r' i' l' a' g') alike = absurd (not_both (ap p e ∙ i') i)
  act_same e q by bz (faults w v n un) (faults w' v' n' un') alike = (ap (λ (t : List News). fault ∷ t) e, nothing)
  act_same {y = y} {z = z} e q by bz (reads w v o f r i l a g) (faults w' v' n un) (inl k) = absurd (not_same k)
  act_same {y = y} {z = z} {xs = xs} {ys = ys} e q by bz (reads w v o f r i l a g) (faults w' v' n un) (inr s) =
      let m : Needs (p xs) w v = rw i (refl, refl) in
      absurd (clashes q bz (p xs) w v (y.spaces.first + f) r m (settled_at y z c (p xs) w v m s).1 a g w' v' (rw e n) un)
  act_same e q by bz (writes v o b f r i l a g) (faults w' v' n un) (inl k) = absurd (not_same k)
  act_same {y = y} {z = z} {xs = xs} {ys = ys} e q by bz (writes v o b f r i l a g) (faults w' v' n un) (inr s) =
      let m : Needs (p xs) writing v = rw i (refl, refl) in
      absurd (clashes q bz (p xs) writing v (y.spaces.first + f) r m (settled_at y z c (p xs) writing v m s).1 a g w' v' (rw e n) un)
  act_same e q by bz (faults w' v' n un) (reads w v o f r i l a g) (inl k) = absurd (not_same (sym k))
  act_same {y = y} {z = z} {xs = xs} {ys = ys} e q by bz (faults w' v' n un) (reads w v o f r i l a g) (inr s) =
      let m : Needs (p xs) w v = rw (ap p e ∙ i) (refl, refl) in
      absurd (clashes (turned q) by (p xs) w v (z.spaces.first + f) r m (settled_at y z c (p xs) w v m s).0 a g w' v' n un)
  act_same e q by bz (faults w' v' n un) (writes v o b f r i l a g) (inl k) = absurd (not_same (sym k))
  act_same {y = y} {z = z} {xs = xs} {ys = ys} e q by bz (faults w' v' n un) (writes v o b f r i l a g) (inr s) =
      let m : Needs (p xs) writing v = rw (ap p e ∙ i) (refl, refl) in
      absurd (clashes (turned q) by (p xs) writing v (z.spaces.first + f) r m (settled_at y z c (p xs) writing v m s).0 a g w' v' n un)

  pub loop_same : {R R' : Frames} {xs ys xs' ys' : List News} {y z y' z' : Machine} → xs ≡ ys → Paired c R y z → Bounded y → Bounded z →
      Loop p c R xs y ys z R' xs' y' ys' z' → (xs' ≡ ys') × Two c R y z R' y' z'
  loop_same e q by bz rests = (e, ends)
  loop_same e q by bz (acts a b h k) =
      let s = act_same e q by bz a b h in
      let u = store_two c s.1 in
      let r = are_runs u in
      let t = loop_same s.0 (run_paired u q) (run_bounded r.0 by) (run_bounded r.1 bz) k in
      (t.0, append u t.1)
  loop_same e q by bz (tells a k) = loop_same (ap (λ (t : List News). told a ∷ t) e) q by bz k
  loop_same e q by bz (meanwhile u n k) =
      let r = are_runs u in
      let t = loop_same e (run_paired u q) (run_bounded r.0 by) (run_bounded r.1 bz) k in
      (t.0, append u t.1)
