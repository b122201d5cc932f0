use Rattle.round_laws.proofs.Rooms.{frames_have_room}
use Rattle.round_laws.proofs.frames_have_room_law.Goals as goal

pub returns : goal.returns
returns c = frames_have_room
