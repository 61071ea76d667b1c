-- What a space reads on both.
use mathlib.Core.Path.{◌≡◌, refl, sym, ap, ◌∙◌}
use mathlib.Core.Bool.{true, true≢false, ◌&&◌, ◌||◌}
use mathlib.Core.Logic.{◌⊎◌, inl, inr}
use Prim.Native.Nat.{ℕ, zero, suc, ◌+◌, ◌-◌, ◌<◌, ◌/◌, ◌%◌}
use native.Mathlib.Omega.{arith}
use lib.Dec.{ltb, leb}
use borrow.Author.Tests.{ltb-true, le-leb}
use Rattle.model.proofs.Laws.Base.{lt?, and_true}
use Rattle.model.specs.State.{byte_of}
use Rattle.model.specs.Translate.{upper}
use Rattle.model.specs.Operations.{shares}
use Rattle.model.specs.Cache.{reading}
use Rattle.model_moves.specs.Spaces.{Spaces, monitor, free, table, exists, Leads}
use Rattle.model_moves.specs.Cache.{Table, from_root, from_word, read_off}
use Rattle.model_moves.specs.Machine.{Machine, Step, moves, reports, looks, stores, Run, stop, then}
use Rattle.model_moves.specs.Terms.{Start, Bounded, Allowed}
use Rattle.model_moves.proofs.Invariant.Monitors.{move_size, monitors_stay}
use Rattle.model_two_computers.specs.Terms.{Frames, no_frames, Repaired, Two, ends, left, right, both, repairs, At, Stale, Corresponds, Settled, Reads}
use Rattle.model_moves.proofs.Invariant.Core.{clash, Core, height_low}
use Rattle.model_moves.proofs.Invariant.Entries.{same_frame}
use Rattle.model_moves.proofs.Invariant.Holds.{Belongs}
use Rattle.model_moves.proofs.Invariant.Allowed.{start_good}
use Rattle.model_two_computers.proofs.Side.{ghost_belongs, found_in, Ghost, Side}
use Rattle.model_two_computers.proofs.Paired.{same_step, second_step, first_step, Paired}
use Rattle.model_two_computers.proofs.Half.{Half}

-- whatever its rights, what belongs to c it may read
belongs_reads : (s : Spaces) (c f r : ℕ) → Belongs s c f r → Allowed s c f reading
unfolding shares
belongs_reads s c f r (inl (inl a)) = inl a
belongs_reads s c f r (inl (inr a)) =
    let how = s.shared f c in
    let b = ltb-true 0 how (and_true (ltb 0 how) (ltb r 4) (and_true (ltb 0 how && ltb r 4) (ltb r 2 || leb 2 how) a.2).0).0 in
    inr (inl (a.0, a.1, le-leb 1 how (omega arith)))
belongs_reads s c f r (inr a) = inr (inr a)

repaired_half : {c : ℕ} {R R₁ : Frames} {G G' : Ghost} {y z : Machine} → Side c G y → Side c G' z →
    ((f f' : ℕ) → R f f' → Allowed y.spaces c f reading → Allowed z.spaces c f' reading → R₁ f f') →
    Half c R G G' y z → Half c R₁ G G' y z
repaired_half {c} {R} {R₁} {G} {G'} {y} {z} S S' stays H = record {
  at = λ v x r g. let a = H.at v x r g in
      let g' : G v (y.spaces.first + a.0) r = rw a.2 at g in (
        a.0,
        a.1,
        a.2,
        stays a.0 a.1 a.3 (belongs_reads y.spaces c a.0 r (ghost_belongs S v a.0 r g'))
            (belongs_reads z.spaces c a.1 r (ghost_belongs S' v a.1 r a.4)),
        a.4,
        a.5,
      );
}

pub repair_step : {c : ℕ} {R R₁ : Frames} {y z : Machine} → Repaired c R R₁ y z → Paired c R y z → Paired c R₁ y z
repair_step {c} {R} {R₁} {y} {z} q p = record {
  G = p.G;
  G' = p.G';
  first = p.first;
  second = p.second;
  forth = repaired_half p.first p.second q.stays p.forth;
  back = repaired_half p.second p.first (λ f f' k a b. q.stays f' f k b a) p.back;
  one_right = q.one_right;
  one_left = q.one_left;
  words = λ f f' k. elim (q.new f f' k) [ inl a ↦ p.words f f' a | inr a ↦ a ];
}

pub run_paired : {c : ℕ} {R R' : Frames} {y z y' z' : Machine} → Two c R y z R' y' z' → Paired c R y z → Paired c R' y' z'
run_paired ends p = p
run_paired {z = z} (left {y} {y₁} t n w k) p = run_paired k (first_step t n p (λ f f' q i. w f f' i q ∙ p.words f f' q i))
run_paired (right t n w k) p = run_paired k (second_step t n p (λ f f' q i. p.words f f' q i ∙ sym (w f f' i q)))
run_paired (both t u s k) p = run_paired k (same_step s p)
run_paired (repairs q k) p = run_paired k (repair_step q p)

start_side : (c : ℕ) {m : Machine} → Start m → Side c (λ v x r. ⊥) m
start_side c {m} x = record {
  good = start_good x;
  holds = record {
    core = (start_good x).core;
    kept = record {
      table_ok = λ d h p x a. absurd a;
      page_ok = λ d v x r a. absurd a.1;
      one = λ d v x r x' r' a b. absurd a.1;
      one_table = λ d h p x x' a b. absurd a;
      table_gone = λ d h p x a. absurd a;
      page_gone = λ d v x r a. absurd a.1;
    };
  };
  kept_in = λ v a r k. x.pages c v a r k;
  led_in = λ o v f r l. elim (x.frames l.1) [
    | inl k ↦ clash {x = monitor} {y = table c l.0 _}
        (sym k ∙ l.2) refl
    | inr k ↦ clash {x = free} {y = table c l.0 _} (sym k ∙ l.2) refl
  ];
}

pub start_paired : (c : ℕ) {m n : Machine} → Start m → Start n → Paired c no_frames m n
start_paired c x y = record {
  G = λ v x r. ⊥;
  G' = λ v x r. ⊥;
  first = start_side c x;
  second = start_side c y;
  forth = record { at = λ v x r g. absurd g };
  back = record { at = λ v x r g. absurd g };
  one_right = λ f a b k. absurd k;
  one_left = λ a b f k. absurd k;
  words = λ f f' k. absurd k;
}

pub both_read : {c : ℕ} {R : Frames} {y z : Machine} → Paired c R y z → (v x r x' r' : ℕ) → At y c v x r → At z c v x' r' →
    (r ≡ r') × Corresponds R y z x x'
both_read {c} {R} {y} {z} p v x r x' r' a b =
    let h = p.forth.at v x r (found_in p.first v x r a) in
    let o = p.second.holds.kept.one c v (z.spaces.first + h.1) r x' r' (refl, h.4) (refl, found_in p.second v x' r' b) in
    (o.1, record { f = h.0; f' = h.1; here = h.2; there = sym o.0; pair = h.3; same = p.words h.0 h.1 h.3 })

pub one_reads : {c : ℕ} {R : Frames} {y z : Machine} → Paired c R y z → (v x r : ℕ) → At y c v x r →
    (x' : ℕ) × Corresponds R y z x x' × (((f' : ℕ) × (x' ≡ z.spaces.first + f') × Leads z.spaces c v f' r) ⊎ Stale z c v)
one_reads {c} {R} {y} {z} p v x r a =
    let h = p.forth.at v x r (found_in p.first v x r a) in
    let o = p.second.holds.kept.page_ok c v (z.spaces.first + h.1) r (refl, h.4) in (
      z.spaces.first + h.1,
      record { f = h.0; f' = h.1; here = h.2; there = refl; pair = h.3; same = p.words h.0 h.1 h.3 },
      elim o.2 [ inl l ↦ inl (o.0, o.1, l) | inr l ↦ let j = l.1 in inr (l.0, (j.0, j.1)) ],
    )

-- the processor comes to every table of a space that exists
table_at : (m : Machine) (c : ℕ) → Core m.spaces → Bounded m → exists m.spaces c ≡ true → (d h p t : ℕ) →
    h + d ≡ (m.spaces.space c).height → m.spaces.kind t ≡ table c h p →
    Table m.spaces m.caches c h p (m.spaces.first + t)
table_at m c k b l zero h p t e a = elim (k.hangs c h p t a) [
  | inl x ↦ from_root l x.0 x.1 (ap (λ (n : ℕ). m.spaces.first + n) x.2)
  | inr x ↦ let x3 = x.3 in absurd (omega arith)
]
table_at m c k b l (suc d) h p t e a = elim (k.hangs c h p t a) [
  | inl x ↦ let x0 = x.0 in absurd (omega arith)
  | inr x ↦ from_word x.0 (table_at m c k b l d (suc h) (p / 512) x.0 (omega arith) x.1) refl
      (in_ram m b x.0 c (suc h) (p / 512) x.1) x.2
]
  where
    in_ram : (m : Machine) → Bounded m → (t c h p : ℕ) → m.spaces.kind t ≡ table c h p → t < m.spaces.size
    in_ram m b t c h p a = elim (lt? t m.spaces.size) [
      | inl l ↦ l
      | inr l ↦ absurd
          (clash {x = monitor} {y = table c h p} (sym (b t l) ∙ a) refl)
    ]

leads_at : (m : Machine) (c : ℕ) → Core m.spaces → Bounded m → exists m.spaces c ≡ true → (v f r : ℕ) → Leads m.spaces c v f r →
    At m c v (m.spaces.first + f) r
leads_at m c k b l v f r a =
    let y = a.3 in
    let low = height_low m.spaces k c a.0 (upper a.0 v / 512) a.1 a.2 in
    read_off a.0 (m.spaces.first + a.1) a.1 y.0
    (table_at m c k b l ((m.spaces.space c).height - a.0) a.0 (upper a.0 v / 512) a.1 (omega arith) a.2) refl
    (elim (lt? a.1 m.spaces.size) [
      | inl l ↦ l
      | inr l ↦ absurd
          (clash {x = monitor} {y = table c a.0 (upper a.0 v / 512)} (sym (b a.1 l) ∙ a.2) refl)
    ]) y.1 (sym y.2)

-- Where page v is settled on the second: what c finds there on the first, it finds on the second, with the same rights.
pub finds_too : {c : ℕ} {R : Frames} {y z : Machine} → Paired c R y z → Bounded z → (v x r : ℕ) → Settled z c v → At y c v x r →
    (x' : ℕ) × At z c v x' r
finds_too {c} {R} {y} {z} p b v x r s a = let o = one_reads p v x r a in elim o.2 [
  | inl w ↦ (z.spaces.first + w.0, leads_at z c p.second.good.core b s.0 v w.0 r w.2)
  | inr w ↦ let j = w.1 in absurd (true≢false (sym j.1 ∙ s.1 j.0))
]

pub are_runs : {c : ℕ} {R R' : Frames} {y z y' z' : Machine} → Two c R y z R' y' z' → Run y y' × Run z z'
are_runs ends = (stop, stop)
are_runs (left t n w k) = let x = are_runs k in (then t x.0, x.1)
are_runs (right t n w k) = let x = are_runs k in (x.0, then t x.1)
are_runs (both t u s k) = let x = are_runs k in (then t x.0, then u x.1)
are_runs (repairs q k) = are_runs k

step_size : {m z : Machine} → Step m z → z.spaces.size ≡ m.spaces.size
step_size (moves s a) = move_size a
step_size (reports c R D r) = refl
step_size (looks k l) = refl
step_size (stores c f o b l a) = refl

run_size : {m z : Machine} → Run m z → z.spaces.size ≡ m.spaces.size
run_size stop = refl
run_size (then a b) = run_size b ∙ step_size a

pub run_bounded : {m z : Machine} → Run m z → Bounded m → Bounded z
run_bounded {m} {z} r b t l = let e = run_size r in (monitors_stay r t (b t (rw e at l))).0

pub reads_too : {c : ℕ} {R : Frames} {y z : Machine} → Paired c R y z → Bounded z → (v r : ℕ) (bytes : ℕ → ℕ) → Settled z c v →
    Reads y c v r bytes → Reads z c v r bytes
reads_too {c} {R} {y} {z} p b v r bytes s a =
    let g = finds_too p b v (y.spaces.first + a.0) r s a.1 in
    let d = (both_read p v (y.spaces.first + a.0) r g.0 r a.1 g.1).1 in
    let f= = same_frame y.spaces.first d.f a.0 (y.spaces.first + a.0) d.here refl in (
      d.f',
      rw d.there at g.1,
      λ o l. ap (byte_of (o % 8)) (sym (d.same (o / 8)) ∙ ap (λ (n : ℕ). y.spaces.word n (o / 8)) f=)
          ∙ a.2 o l,
    )

pub append : {c : ℕ} {R R₁ R' : Frames} {y z y₁ z₁ y' z' : Machine} → Two c R y z R₁ y₁ z₁ → Two c R₁ y₁ z₁ R' y' z' → Two c R y z R' y' z'
append ends k = k
append (left t n w q) k = left t n w (append q k)
append (right t n w q) k = right t n w (append q k)
append (both t u s q) k = both t u s (append q k)
append (repairs r q) k = repairs r (append q k)
