-- What a host is told, of the state: a frame, a guest, and what an address of a guest translates to.
use Rattle.std.specs.Prelude.{cond, List, ℕ, ◌+◌, ◌*◌, ltb}
use Rattle.walk.specs.declared.Answer.{Answer}
use Rattle.walk.specs.declared.Answer.TheVariants.{Refused}
use Rattle.walk.specs.Both.{answer_2}
use Rattle.model.specs.State.{NOTHING, State, KindOfFrame, monitor, free, table, draining_table, page, draining_page, is_guest, total}
use Rattle.ledger.specs.Layout.{size_of, first_of, root_of, exists_of}
use Rattle.monitor_query.specs.declared.FrameKind.{FrameKind}
use Rattle.monitor_query.specs.declared.FrameKind.TheVariants.{Outside, Monitor, Free, Table, Draining, Page}
use Rattle.monitor_query.specs.declared.GuestKind.{GuestKind}
use Rattle.monitor_query.specs.declared.GuestKind.TheVariants.{Nobody, Absent, Present}

abbrev pub kind_told : KindOfFrame → (mapped : ℕ) → FrameKind
kind_told monitor n = Monitor
kind_told free n = Free
kind_told (table g h p) n = Table g
kind_told (draining_table g h p) n = Draining g
kind_told (page g) n = Page g n
kind_told (draining_page g) n = Draining g

unfoldable pub frame_told : State → (f : ℕ) → FrameKind
frame_told s f = cond (ltb f s.size) (kind_told (s.kind f) (total (s.count f))) Outside

unfoldable pub share_told : State → (f h : ℕ) → ℕ
share_told s f h = cond (ltb f s.size) (cond (is_guest h) (s.shared f h) NOTHING) NOTHING

unfoldable pub guest_told : State → (g : ℕ) → GuestKind
guest_told s g =
    cond (is_guest g) (cond (s.exists g) (Present (4096 * (s.first + s.root g)) (s.dirty g)) (Absent (s.dirty g))) Nobody

-- the walk of stage 2 on the bytes of RAM, from the guest's root
unfoldable pub translated : (ram ledger : List ℕ) (g a access : ℕ) → Answer
translated m l g a w =
    cond (exists_of l g) (answer_2 m (4096 * first_of l) (size_of l) (4096 * (first_of l + root_of l g)) a w) Refused
