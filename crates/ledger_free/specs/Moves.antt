-- The free set in the ledger: the stores that the code makes where a frame leaves or joins it. What they come to: Changed and Taken.
use Rattle.std.specs.Prelude.{◌≡◌, List, ℕ, ◌-◌, ◌<◌}
use Rattle.ledger.specs.Columns.{HEADER_WORDS, HEADER, FREE_COUNT, KIND, FRAME_AT, PLACE}
use Rattle.ledger.specs.Cells.{store}
use Rattle.model.specs.State.{free}
use Rattle.ledger.specs.Layout.{frames, size_of, kind_of, pick_of}
use Rattle.ledger.specs.Sound.{free_of}

-- frame f stands at place q
unfoldable pub placed : List ℕ → (f q : ℕ) → List ℕ
placed l f q = store HEADER_WORDS (store HEADER_WORDS l FRAME_AT q f) PLACE f q

-- frame f and the one at place q change places
unfoldable pub exchanged : List ℕ → (f q : ℕ) → List ℕ
exchanged l f q = placed (placed l (frames l FRAME_AT q) (frames l PLACE f)) f q

-- and f becomes k, and so many frames are free
unfoldable pub settled : List ℕ → (f q k count : ℕ) → List ℕ
settled l f q k count = store HEADER_WORDS (store 0 (exchanged l f q) FREE_COUNT HEADER count) KIND f k

-- a free frame f becomes k: the last free one takes its place, and there is one less
abbrev pub occupied : List ℕ → (f k : ℕ) → List ℕ
occupied l f k = settled l f (free_of l - 1) k (free_of l - 1)

-- t is the frame that is taken when any will do
abbrev pub Next : List ℕ → (t : ℕ) → Type 0
Next l t = (t ≡ pick_of l 0) × (t < size_of l) × (kind_of l t ≡ free)
