-- Of the two slices after an operation: what each address of each guest translates to, and what document 01's walk finds on the bytes.
use Rattle.std.specs.Prelude.{◌≡◌, List, ℕ, ◌+◌, ◌*◌, ◌<◌}
use Rattle.std.proofs.Math.Option.{Option}
use Rattle.walk.specs.Both.{stage_2}
use Rattle.model.specs.State.{page_count}
use Rattle.model.specs.Translate.{Page, translate}
use Rattle.model.specs.Operations.{Out, refuse}
use Rattle.model.specs.Cache.{Access}
use Rattle.model.specs.Machine as M
use Rattle.model.specs.Terms.{expected}
use Rattle.model.specs.Bytes.{access, comes}
use Rattle.ledger.specs.Layout.{first_of, root_of, state_of}

-- b, the physical address of RAM's first byte
abbrev pub base_of : List ℕ → ℕ
base_of l = 4096 * first_of l

-- Each page of each guest translates as model's `expected` has it: as before, but for the one that was asked for.
abbrev pub Translates : M.Operation → (ram ledger ram' ledger' : List ℕ) → Type 0
Translates o m l m' l' = (h v : ℕ) → v < page_count → translate (state_of m' l') h v ≡ expected (state_of m l) o h v

-- Document 01's walk of stage 2 on RAM's bytes, from g's root, at every byte k of the page at a and for every kind of access:
-- it comes to that byte of the frame where the rights allow it, and to PERMISSION at level 3 where they do not; where nothing is mapped,
-- to TRANSLATION at level 3.
abbrev pub Finds : (g a : ℕ) → Option Page → (ram ledger : List ℕ) → Type 0
Finds g a o m l = (k : ℕ) → k < 4096 → (w : Access) → (stage_2 m (base_of l) (base_of l + 4096 * root_of l g) (access w) (a + k)).result ≡
    comes (base_of l) k 0 w o

-- no refusal is 0
abbrev pub Nonzero : Out → Type 0
Nonzero o = (k : ℕ) → o ≡ refuse k → k ≡ 0 → ⊥
