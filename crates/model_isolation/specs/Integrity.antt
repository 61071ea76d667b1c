-- Integrity: a word of a page changes only by a store of its owner, of a guest that it is lent to for writing, or of the host.
-- Any run from Start, then any step; any page, any word of it. So no move of the monitor changes a page that stays one.
use Rattle.std.specs.Prelude.{◌≡◌, ◌⊎◌, ℕ}
use Rattle.model.specs.Cache.{writing}
use Rattle.model_moves.specs.Spaces.{page}
use Rattle.model_moves.specs.Machine.{Machine, Step, Run}
use Rattle.model_moves.specs.Terms.{Start, Allowed, HostStores, StoresBy}
use Rattle.model_moves.proofs.Invariant.Allowed.{kept_words}
use Rattle.model_moves.proofs.Invariant.Always.{good}

pub integrity : {m z z' : Machine} → Start m → Run m z → (t : Step z z') (f g i : ℕ) → z.spaces.kind f ≡ page g →
    (z'.spaces.word f i ≡ z.spaces.word f i) ⊎
    (HostStores t f ⊎ ((c : ℕ) × StoresBy t c f × Allowed z.spaces c f writing))
integrity st run t = kept_words (good st run) t
