-- Demand 3 on one page, of the two slices that the code works on. x is what they are right after a set-up that was answered 0, with
-- nothing kept (Begun); y is what they are after any steps (Run): calls with any numbers, answered or refused; stores of guests where
-- they reach for writing; stores of the host where no table is; and the processor looks, before and after every single store, and keeps
-- any part of what it finds (crate isolation_runs, Slices). The words are in Terms of that crate; each theorem has a file here, with its
-- sentence.
use Rattle.std.specs.Prelude.{◌≡◌, false, ◌⊎◌, ℕ, ◌+◌, ◌*◌, ◌<◌, ◌/◌, get_or}
use Rattle.model.specs.State.{KindOfFrame, page, table}
use Rattle.model.specs.Translate.{upper}
use Rattle.model.specs.Cache.{Access}
use Rattle.ledger.specs.Layout.{size_of, kind_of, count_of, dirty_of}
use Rattle.isolation_runs.specs.Calls.{Call, Create}
use Rattle.isolation_runs.specs.Slices.{Slices, Reaches, Called, Step, Run, Begun}
use Rattle.isolation_runs.specs.Terms.{In, Uses, Allowed, Hidden, Unreached, Handed, Laid, Finds, FindsHeight, FindsTable, NothingKept, Written}
use Rattle.isolation.specs.Integrity.{Held}
use Rattle.isolation.proofs.Theorems.Reach as R
use Rattle.isolation.proofs.Theorems.TwoGuests as T
use Rattle.isolation.proofs.Theorems.BeyondShared as W
use Rattle.isolation.proofs.Theorems.Hidden as P
use Rattle.isolation.proofs.Theorems.ChangesHands as H
use Rattle.isolation.proofs.Theorems.BecomesTable as B
use Rattle.isolation.proofs.Theorems.TakenOut as O
use Rattle.isolation.proofs.Theorems.NewGuest as N
use Rattle.isolation.proofs.Theorems.Integrity as I
use Rattle.isolation.proofs.Theorems.OneTranslation as E

module _ {x y : Slices} (begun : Begun x) (run : Run x y) where
  -- What g reaches is its own page, or a page shared with it for that access, or a frame that drains for it.
  reach : (g : ℕ) (w : Access) (a : ℕ) → Reaches y g w a →
      (f : ℕ) × In y a f × (f < size_of y.ledger) × Allowed y g f w
  reach = R.reach begun run

  -- "no page can be reached by two guests unless its owner shared it"
  two_guests : (g h : ℕ) (w w' : Access) (a a' f : ℕ) → (g ≡ h → ⊥) → In y a f → In y a' f →
      Reaches y g w a → Reaches y h w' a' →
      (o : ℕ) × (kind_of y.ledger f ≡ page o) × Uses y o g f w × Uses y o h f w'
  two_guests = T.two_guests begun run

  -- "none is written beyond what was shared", nor read, nor executed
  beyond_shared : (o g f : ℕ) (w : Access) (a : ℕ) → kind_of y.ledger f ≡ page o → In y a f →
      Reaches y g w a → Uses y o g f w
  beyond_shared = W.beyond_shared begun run

  -- "no guest reaches a table", nor a frame of the monitor, nor a free one
  hidden : (f : ℕ) (k : KindOfFrame) → kind_of y.ledger f ≡ k → Hidden k → Unreached y f
  hidden = P.hidden begun run

  -- "a page changes hands only when no cache can lead to it and its contents are gone"
  changes_hands : {z : Slices} → Step y z → (f g : ℕ) →
      (kind_of y.ledger f ≡ page g → ⊥) → kind_of z.ledger f ≡ page g → Handed y z f
  changes_hands = H.changes_hands begun run

  -- the same of a frame that becomes a table
  becomes_table : {z : Slices} → Step y z → (f g h p : ℕ) →
      (kind_of y.ledger f ≡ table g h p → ⊥) → kind_of z.ledger f ≡ table g h p → Laid y z f
  becomes_table = B.becomes_table begun run

  -- a guest that is not dirty, and for which nothing of f is counted, reaches no byte of f: taking out is complete
  taken_out : (f g : ℕ) → count_of y.ledger f g ≡ 0 → dirty_of y.ledger g ≡ false →
      (w : Access) (a : ℕ) → In y a f → Reaches y g w a → ⊥
  taken_out = O.taken_out begun run

  -- when a guest is created nothing is kept for its number, and it reaches nothing, whoever had the number before
  nothing_kept : (z : Slices) (g : ℕ) → Called (Create g) 0 y z → NothingKept y g
  nothing_kept = N.nothing_kept begun run

  new_guest : (z : Slices) (g : ℕ) → Called (Create g) 0 y z → (w : Access) (a : ℕ) → Reaches z g w a → ⊥
  new_guest = N.new_guest begun run

  -- contents: no call changes a byte of a page that stays with its guest
  contents : {z : Slices} (c : Call) (r : ℕ) → Called c r y z →
      (f : ℕ) (k : KindOfFrame) → kind_of y.ledger f ≡ k → Held k → f < size_of y.ledger →
      (o : ℕ) → o < 4096 → get_or z.ram (f * 4096 + o) 0 ≡ get_or y.ram (f * 4096 + o) 0
  contents = I.contents begun run

  -- integrity: a byte of a page changes only by a store of a guest that may write the page, or of the host
  integrity : {z : Slices} (s : Step y z) (f p : ℕ) → kind_of y.ledger f ≡ page p → f < size_of y.ledger →
      (o : ℕ) → o < 4096 → (get_or z.ram (f * 4096 + o) 0 ≡ get_or y.ram (f * 4096 + o) 0) ⊎ Written s f
  integrity = I.integrity begun run

  -- a page of a guest never has two translations (page of physical memory, rights, height), by the tables or by what was kept
  one_translation : (g v p r p' r' : ℕ) → Finds y g v p r → Finds y g v p' r' → (p ≡ p') × (r ≡ r')
  one_translation = E.one_translation begun run

  one_height : (g v l l' : ℕ) → FindsHeight y g v l → FindsHeight y g v l' → l ≡ l'
  one_height = E.one_height begun run

  -- nor has a range of a guest two tables, nor a table and a block
  one_table : (g h q p p' : ℕ) → FindsTable y g h q p → FindsTable y g h q p' → p ≡ p'
  one_table = E.one_table begun run

  table_or_block : (g h p v l : ℕ) → FindsTable y g h (upper h v / 512) p → h < l → FindsHeight y g v l → ⊥
  table_or_block = E.table_or_block begun run
