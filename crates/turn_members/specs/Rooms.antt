-- Room for what an arbitrator answers.
use Rattle.std.specs.Prelude.{◌≡◌, ◌<◌, [], vec_capacity}
use Rattle.turn_members.specs.declared.answer.Room.{Room}

pub record IsRoom (r : Room) : Type 0 where
  pub no_records : r.records.items ≡ []
  pub no_frames : r.frames.items ≡ []
  pub records : 0 < vec_capacity r.records
  pub frames : 0 < vec_capacity r.frames
