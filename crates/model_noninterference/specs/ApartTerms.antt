-- Words for the stronger theorem on two runs, in which other guests ask for other operations, so that frames have other numbers.
-- A frame of one run and a frame of the other correspond for g when they were given to g together, or shared with g together while their
-- bytes were the same.
use Rattle.std.specs.Prelude.{◌≡◌, Bool, true, false, ◌⊎◌, ℕ, ◌+◌, ◌<◌, eqb}
use Rattle.std.proofs.Math.Option.{Option, none, some}
use Rattle.model.specs.State.{State, byte, page_count}
use Rattle.model.specs.Translate.{translate}
use Rattle.model.specs.Cache.{Translation}
use Rattle.model.specs.Machine.{Machine, Operation, Create, Give, Take, Map, Unmap, Share, Unshare, Destroy, Invalidated, answer, Chooses, call, write}
use Rattle.model_noninterference.specs.TwoRunsTerms.{shown, SameBytes, answered, Stores}

-- The operation does something for guest g: with its tables, its pages, or what is shared with it.
-- (Where g shares a page of its own with another, nothing changes for g; that may differ too.)
abbrev pub concerns : (g : ℕ) → Operation → Bool
concerns g (Create h pick) = eqb h g
concerns g (Give f h) = eqb h g
concerns g (Take f h) = eqb h g
concerns g (Map f h a r pick) = eqb h g
concerns g (Unmap a h) = eqb h g
concerns g (Share o f h w) = eqb h g
concerns g (Unshare o f h) = eqb h g
concerns g (Destroy h) = eqb h g
concerns g (Invalidated h) = eqb h g

-- which frame of one run corresponds to which of the other
abbrev pub Frames : Type 1
Frames = ℕ → ℕ → Type 0

-- The same operation for g in both runs. A frame that it names corresponds to the one that it names in the other;
-- what is given may be any frame, and so may a page that is newly shared with g, if its bytes are the same in both.
pub data Matches (g : ℕ) (R : Frames) (s s' : State) : Operation → Operation → Type 0 where
  creates : {pick pick' : ℕ → ℕ} → Matches g R s s' (Create g pick) (Create g pick')
  gives : {f f' : ℕ} → Matches g R s s' (Give f g) (Give f' g)
  takes : {f f' : ℕ} → R f f' → Matches g R s s' (Take f g) (Take f' g)
  maps : {f f' a r : ℕ} {pick pick' : ℕ → ℕ} → R f f' → Matches g R s s' (Map f g a r pick) (Map f' g a r pick')
  unmaps : {a : ℕ} → Matches g R s s' (Unmap a g) (Unmap a g)
  lends : {o f f' w : ℕ} → R f f' ⊎ ((shown s g f ≡ false) × (shown s' g f' ≡ false) × SameBytes s s' f f') →
      Matches g R s s' (Share o f g w) (Share o f' g w)
  unlends : {o f f' : ℕ} → R f f' → Matches g R s s' (Unshare o f g) (Unshare o f' g)
  destroys : Matches g R s s' (Destroy g) (Destroy g)
  reports : Matches g R s s' (Invalidated g) (Invalidated g)

-- the page that an operation brings to the guest it concerns
abbrev pub brings : Operation → Option ℕ
brings (Give f h) = some f
brings (Share o f h w) = some f
brings (Create h pick) = none
brings (Take f h) = none
brings (Map f h a r pick) = none
brings (Unmap a h) = none
brings (Unshare o f h) = none
brings (Destroy h) = none
brings (Invalidated h) = none

-- what corresponds after o and o' were answered, in states s and s': as before, and what they bring; as long as g may read it
abbrev pub after : (g : ℕ) → Frames → (o o' : Operation) (s s' : State) → Frames
after g R o o' s s' f f' = (R f f' ⊎ ((brings o ≡ some f) × (brings o' ≡ some f'))) × (shown s g f ≡ true) × (shown s' g f' ≡ true)

-- Steps of two machines, from y and z to y' and z', and what corresponds before and after.
-- One alone: an operation that does not concern g, or is refused; a store to a frame that is not shown to g.
-- Both: operations for g that match and are both answered 0; the same store to frames that correspond.
pub data Apart (g : ℕ) : (R : Frames) (y z : Machine) (R' : Frames) (y' z' : Machine) → Type 1 where
  first_calls : {R : Frames} {y z : Machine} (o : Operation) → Chooses y.state o →
      (concerns g o ≡ false) ⊎ (answered (answer y.state o) ≡ false) → Apart g R y z R (call y o) z
  second_calls : {R : Frames} {y z : Machine} (o : Operation) → Chooses z.state o →
      (concerns g o ≡ false) ⊎ (answered (answer z.state o) ≡ false) → Apart g R y z R y (call z o)
  both_call : {R : Frames} {y z : Machine} (o o' : Operation) → Chooses y.state o → Chooses z.state o' →
      answered (answer y.state o) ≡ true → answered (answer z.state o') ≡ true → Matches g R y.state z.state o o' →
      Apart g R y z (after g R o o' (call y o).state (call z o').state) (call y o) (call z o')
  first_stores : {R : Frames} {y z : Machine} (h f o x : ℕ) → Stores y h f o x → shown y.state g f ≡ false →
      Apart g R y z R (write y f o x) z
  second_stores : {R : Frames} {y z : Machine} (h f o x : ℕ) → Stores z h f o x → shown z.state g f ≡ false →
      Apart g R y z R y (write z f o x)
  both_store : {R : Frames} {y z : Machine} (h h' f f' o x : ℕ) → Stores y h f o x → Stores z h' f' o x → R f f' →
      Apart g R y z R (write y f o x) (write z f' o x)

pub data RunsApart (g : ℕ) : (R : Frames) (y z : Machine) (R' : Frames) (y' z' : Machine) → Type 1 where
  stop : {R : Frames} {y z : Machine} → RunsApart g R y z R y z
  then : {R R' R'' : Frames} {y z y' z' y'' z'' : Machine} → Apart g R y z R' y' z' → RunsApart g R' y' z' R'' y'' z'' →
      RunsApart g R y z R'' y'' z''

-- nothing corresponds yet
abbrev pub no_frames : Frames
no_frames f f' = ⊥

-- Guest g can read these 4,096 bytes at its page v, with rights r: by the tables or by a translation that the processor has kept.
-- (Whatever g translates to is a frame of RAM: see Reach.)
abbrev pub Reads : Machine → (g v r : ℕ) (bytes : ℕ → ℕ) → Type 0
Reads m g v r bytes = (f : ℕ) × Translation m.state m.caches g v (m.state.first + f) r ×
    ((i : ℕ) → i < 4096 → byte m.state f i ≡ bytes i)

-- the same by the tables alone, as they are now
abbrev pub ReadsNow : Machine → (g v r : ℕ) (bytes : ℕ → ℕ) → Type 0
ReadsNow m g v r bytes = (f : ℕ) × (v < page_count) × (translate m.state g v ≡ some (f, r)) ×
    ((i : ℕ) → i < 4096 → byte m.state f i ≡ bytes i)
