-- Paths of moves: what an operation does, store by store; and with the processor looking before each move and at the end, as it likes.
use Rattle.std.specs.Prelude.{Bool, ℕ}
use Rattle.model_moves.specs.Spaces.{Spaces, FrameUse}
use Rattle.model_moves.specs.Cache.{Caches, Looks, forget}
use Rattle.model_moves.specs.Moves.{Move, put, claim, link, enter, clear, unhook, hand, lend, retire, release, open_space, end, dissolve, Report, reported}

pub data Path : Spaces → Spaces → Type 0 where
  here : {s : Spaces} → Path s s
  move : {s s' s'' : Spaces} → Move s s' → Path s' s'' → Path s s''
  report : {s s'' : Spaces} (c : ℕ) (R D : ℕ → Bool) → Report s c R D → Path (reported s c D) s'' → Path s s''

-- from k to k'', looking all the way
pub data Watched : (s z : Spaces) → Path s z → Caches → Caches → Type 1 where
  at_end : {s : Spaces} {k k' : Caches} → Looks s k k' → Watched s s here k k'
  at_move : {s s' z : Spaces} {k k' k'' : Caches} {p : Path s' z} (m : Move s s') → Looks s k k' → Watched s' z p k' k'' →
      Watched s z (move m p) k k''
  at_report : {s z : Spaces} {k k' k'' : Caches} (c : ℕ) (R D : ℕ → Bool) (r : Report s c R D) {p : Path (reported s c D) z} →
      Looks s k k' → Watched (reported s c D) z p (forget k' c R) k'' → Watched s z (report c R D r p) k k''

-- What a move does, by name and by what it is about. A store beside tables tells what its frame is used for; a report is a deed too.
pub data Deed : Type 0 where
  puts : (frame : ℕ) (is : FrameUse) → Deed
  claims links clears unhooks : (space height range : ℕ) → Deed
  enters : (space height range page rights : ℕ) → Deed
  hands : (frame guest : ℕ) → Deed
  lends : (frame space how : ℕ) → Deed
  retires : (guest : ℕ) (frames : ℕ → Bool) → Deed
  releases : (frames : ℕ → Bool) → Deed
  opens ends dissolves tells : (space : ℕ) → Deed

abbrev pub deed : {s s' : Spaces} → Move s s' → Deed
deed {s} (put f i x u) = puts f (s.kind f)
deed (claim t c h p m) = claims c h p
deed (link t t' c h q x m) = links c h q
deed (enter t c h q x y r m) = enters c h q y r
deed (clear t c h q x y r S j m) = clears c h q
deed (unhook t t' c h q x S j W m) = unhooks c h q
deed (hand f g e z) = hands f g
deed (lend f c how m) = lends f c how
deed (retire P g W m) = retires g P
deed (release P m) = releases P
deed (open_space c n m) = opens c
deed (end c S j l w e) = ends c
deed (dissolve c l e) = dissolves c

-- each deed of the path is in D
abbrev pub Along : (D : Deed → Type 0) {s z : Spaces} → Path s z → Type 0
Along D here = Unit {0}
Along D (move m p) = D (deed m) × Along D p
Along D (report c R E r p) = D (tells c) × Along D p

abbrev pub Way : (D : Deed → Type 0) → Spaces → Spaces → Type 0
Way D s z = (p : Path s z) × Along D p
