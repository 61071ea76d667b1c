-- Document 01's walk on the bytes of RAM stands at each level in the table in which the way through the state's tables stands.
use mathlib.Core.Path.{◌≡◌, refl, sym, ap, subst, ◌∙◌}
use mathlib.Core.Bool.{Bool, true, cond}
use mathlib.Core.List.{List, [], ◌∷◌}
use mathlib.Core.Option.{Option, some}
use Prim.Native.Nat.{ℕ, zero, suc, ◌+◌, ◌*◌, ◌-◌, ◌≤◌, ◌<◌, ◌/◌, ◌%◌, ◌^◌}
use native.Mathlib.Omega.{arith}
use lib.ListN.{length}
use Rattle.memory.specs.Ram.{fewest_frames, most_frames}
use Rattle.walk_descriptor.specs.declared.FaultKind.TheVariants.{Translation, Permission}
use Rattle.walk.specs.Memory.{read_at}
use Rattle.walk_descriptor.specs.Descriptor.{span, slot, address, allows_2}
use Rattle.walk.specs.Both.{Walked, ends, having_fetched, Stage2Result, reached, failed, stage_2, as_answer_2, answer_2}
use Rattle.walk.specs.Steps.{from_table_2}
use Rattle.walk.proofs.Laws.Level.{read_in, slot_at, stage_2_from_table, level_empty, level_table, level_page}
use Rattle.walk.proofs.Laws.Fits.{answer_2_is}
use Rattle.model.specs.State.{State, table, page_count}
use Rattle.model.specs.Entry.{Entry, empty, to_table, to_page, other, table_entry, page_entry}
use Rattle.model.proofs.Laws.Entry.{is_empty, is_table, is_to_page, table_kind, page_bits}
use Rattle.model.specs.Translate.{upper, index, entry_at, descend, page_at, translate, missing_from, missing}
use Rattle.model.specs.Cache.{Access, reading, writing, executing}
use Rattle.model.specs.Bytes.{Image, access, comes, says, answers}
use Rattle.model.specs.Invariant.{May, Fits, Core}
use Rattle.model.proofs.Invariant.Core.{low, in_room}
use Rattle.model.proofs.Invariant.Way.{root_serves, step_kind, leaf_there}
use Rattle.model.proofs.Invariant.Pages.{may_room}
use Rattle.model.proofs.Invariant.Descriptors.{table_low, table_high, table_address, page_address, page_allows}

access_low : (w : Access) → access w < 3
access_low reading = omega arith
access_low writing = omega arith
access_low executing = omega arith

-- the index at a level is the index at its height
level_index : (h a : ℕ) → h ≤ 3 → a / span (3 - h) % 512 ≡ index h (a / 4096)
unfolding upper
level_index zero a l = omega arith
level_index (suc zero) a l = omega arith
level_index (suc (suc zero)) a l = omega arith
level_index (suc (suc (suc zero))) a l = omega arith
level_index (suc (suc (suc (suc h)))) a l = absurd (omega arith)

-- a walk comes to x, having fetched n descriptors
pub record Ends (w : Walked Stage2Result) (x : Stage2Result) (n : ℕ) : Type 0 where
  pub result : w.result ≡ x
  pub count : length w.fetched ≡ n

ends_after : {w v : Walked Stage2Result} {x : Stage2Result} {n : ℕ} (a : ℕ) → w ≡ having_fetched (a ∷ []) v → Ends v x n →
    Ends w x (suc n)
ends_after {w} {v} {x} {n} a e y = subst (λ (u : Walked Stage2Result). Ends u x (suc n)) (sym e)
    (record { result = y.result; count = let z = y.count in omega arith })

ends_now : (x : Stage2Result) → Ends (ends x) x 0
ends_now x = record { result = refl; count = refl }

module _ (s : State) (c : Core s) (b : ℕ) (m : List ℕ) (x : Image s b m) (g a : ℕ) (w : Access) where
  abbrev rest : (h t : ℕ) → Walked Stage2Result
  rest h t = from_table_2 m b (access w) a h (b + 4096 * t)

  -- what the walk reads in table t of height h
  reads : (h t d : ℕ) → h ≤ 3 → t < s.size → s.word t (index h (a / 4096)) ≡ d → read_at m b (slot (3 - h) a (b + 4096 * t)) ≡ some d
  reads h t d l k e =
      let i = index h (a / 4096) in
      let here : slot (3 - h) a (b + 4096 * t) ≡ b + (4096 * t + 8 * i) = slot_at (3 - h) a (b + 4096 * t)
      ∙ ap (λ (j : ℕ). b + 4096 * t + 8 * j) (level_index h a l) ∙ omega arith in
      let long = x.long in
      ap (read_at m b) here ∙ read_in m b (4096 * t + 8 * i) (omega arith) ∙ ap some (sym (x.words t i k (omega arith)) ∙ e)

  -- nothing there
  at_empty : (h t : ℕ) → h ≤ 3 → t < s.size → entry_at s t (index h (a / 4096)) ≡ empty → Ends (rest h t) (failed Translation (3 - h)) 1
  at_empty h t l k e =
      ends_after (slot (3 - h) a (b + 4096 * t)) (level_empty m b (access w) a h (b + 4096 * t)
      (reads h t 0 l k (is_empty s.first (s.word t (index h (a / 4096))) e)))
      (ends_now (failed Translation (3 - h)))

  -- a table
  at_table : (h t t' : ℕ) {o : Stage2Result} {n : ℕ} → h < 3 → t < s.size → s.first + t' < page_count →
      entry_at s t (index (suc h) (a / 4096)) ≡ to_table t' → Ends (rest h t') o n → Ends (rest (suc h) t) o (suc n)
  at_table h t t' l k r e y =
      let d = table_entry s.first t' in
      let base = x.base in
      let to : address d ≡ b + 4096 * t' = table_address s.first t' r ∙ omega arith in
      ends_after (slot (3 - suc h) a (b + 4096 * t))
      (level_table m b (access w) a h (b + 4096 * t) d l (reads (suc h) t d l k
      (is_table s.first (s.word t (index (suc h) (a / 4096))) t' e)) (table_kind s.first t' r) (table_low s.first t' r)
      (table_high s.first t' r)
      ∙ ap (λ (u : ℕ). having_fetched (slot (3 - suc h) a (b + 4096 * t) ∷ []) (from_table_2 m b (access w) a h u)) to) y

  -- a page
  at_page : (t f r : ℕ) → t < s.size → s.first + f < page_count → entry_at s t (index 0 (a / 4096)) ≡ to_page f r →
      Ends (rest 0 t) (comes b (a % 4096) 0 w (some (f, r))) 1
  at_page t f r k l e =
      let d = page_entry s.first f r in
      let base = x.base in
      let to : address d + a % 4096 ≡ b + 4096 * f + a % 4096 = ap (λ (u : ℕ). u + a % 4096) (page_address s.first f r l)
      ∙ omega arith in
      ends_after (slot 3 a (b + 4096 * t))
      (level_page m b (access w) a (b + 4096 * t) d (reads 0 t d (omega arith) k
      (is_to_page s.first (s.word t (index 0 (a / 4096))) f r e)) (page_bits s.first f r l).three
      (page_bits s.first f r l).low (page_bits s.first f r l).flag
      ∙ ap (λ (u : ℕ). having_fetched (slot 3 a (b + 4096 * t) ∷ [])
      (ends (cond (allows_2 (access w) d) (reached u) (failed Permission 3)))) to
      ∙ ap (λ (u : Bool). having_fetched (slot 3 a (b + 4096 * t) ∷ [])
      (ends (cond u (reached (b + 4096 * f + a % 4096)) (failed Permission 3)))) (page_allows s.first f r l w))
      (ends_now (comes b (a % 4096) 0 w (some (f, r))))

  -- from the table of height h that serves a
  abbrev Walks : (h t : ℕ) → Type 0
  Walks h t = (n : ℕ) × (n + missing_from s h t (a / 4096) ≡ suc h) ×
      Ends (rest h t) (comes b (a % 4096) (missing_from s h t (a / 4096)) w (page_at s (a / 4096) (descend s h t (a / 4096)))) n

  from_table : (h t : ℕ) → h ≤ 3 → s.kind t ≡ table g h (upper (suc h) (a / 4096)) → Walks h t
  unfolding descend missing_from upper
  from_table zero t l k = go (entry_at s t (a / 4096 % 512)) refl (c.tables t g 0 (a / 4096 / 512) k (a / 4096 % 512) (omega arith))
    where
      go : (e : Entry) → entry_at s t (a / 4096 % 512) ≡ e → Fits s.kind (May s) g 0 (a / 4096 / 512 * 512 + a / 4096 % 512) e →
          Walks 0 t
      go empty q y = (1, refl, rw q (at_empty 0 t l (low s c t (table g 0 (a / 4096 / 512)) k refl) q))
      go (to_table t') q y = absurd y
      go (to_page f r) q y = (1, refl, rw q (at_page t f r (low s c t (table g 0 (a / 4096 / 512)) k refl) (may_room s c g f r y) q))
      go (other z) q y = absurd y
  from_table (suc h) t l k = go (from_table h) (entry_at s t (index (suc h) (a / 4096))) refl
      (c.tables t g (suc h) (upper (suc (suc h)) (a / 4096)) k (index (suc h) (a / 4096)) (omega arith))
    where
      go : ((t : ℕ) → h ≤ 3 → s.kind t ≡ table g h (upper (suc h) (a / 4096)) → Walks h t) → (e : Entry) →
          entry_at s t (index (suc h) (a / 4096)) ≡ e →
          Fits s.kind (May s) g (suc h) (upper (suc (suc h)) (a / 4096) * 512 + index (suc h) (a / 4096)) e → Walks (suc h) t
      go ih empty q y = (
        1,
        rw q (omega arith),
        rw q (at_empty (suc h) t l
            (low s c t (table g (suc h) (upper (suc (suc h)) (a / 4096))) k refl) q),
      )
      go ih (to_table t') q y =
          let z = ih t' (omega arith) (step_kind s c g h t (a / 4096) t' k q) in
          let n = z.1 in (
            suc z.0,
            rw q (omega arith),
            rw q (at_table h t t' (omega arith)
                (low s c t (table g (suc h) (upper (suc (suc h)) (a / 4096))) k refl)
                (in_room s c t' (table g h (upper (suc (suc h)) (a / 4096) * 512 + index (suc h) (a / 4096))) y refl) q z.2),
          )
      go ih (to_page f r) q y = absurd y
      go ih (other u) q y = absurd y

  -- from the root
  pub walk_ends : s.exists g ≡ true → a < 2 ^ 48 → Ends (stage_2 m b (b + 4096 * s.root g) (access w) a) (says s b g a w)
      (4 - missing s g (a / 4096))
  unfolding says translate
  walk_ends e l =
      let z = from_table 3 (s.root g) (omega arith) (root_serves (s.kind (s.root g)) g (a / 4096) (c.roots g e) (omega arith)) in
      let n = z.1 in
      let y = z.2 in
      record {
        result = ap (λ (u : Walked Stage2Result). u.result) (stage_2_from_table m b (access w) a (b + 4096 * s.root g)) ∙ y.result
            ∙ ap (λ (o : Option ℕ). comes b (a % 4096) (missing s g (a / 4096)) w (page_at s (a / 4096) o))
            (sym (leaf_there s c g (a / 4096) e));
        count = ap (λ (u : Walked Stage2Result). length u.fetched) (stage_2_from_table m b (access w) a (b + 4096 * s.root g))
            ∙ y.count ∙ omega arith;
      }

  -- the public answer, where n fits document 01
  pub answer_says : fewest_frames ≤ s.size → s.size ≤ most_frames → s.exists g ≡ true → a < 2 ^ 48 →
      answer_2 m b s.size (b + 4096 * s.root g) a (access w) ≡ answers s b g a w
  unfolding answers
  answer_says least most e l =
      let z = walk_ends e l in
      let root = s.root g in
      let inside = low s c root (table g 3 0) (c.roots g e) refl in
      let room = c.room in
      let base = x.base in
      answer_2_is m b s.size (record {
        ram = record { least = least; most = most; aligned = omega arith; low = omega arith };
        long = x.long;
      }) (b + 4096 * root) a (access w) (omega arith) (omega arith) (access_low w) l
      ∙ ap (λ (r : Stage2Result). as_answer_2 r (length (stage_2 m b (b + 4096 * root) (access w) a).fetched)) z.result
      ∙ ap (as_answer_2 (says s b g a w)) z.count
