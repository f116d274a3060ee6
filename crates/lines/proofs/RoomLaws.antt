-- There is room for texts that are written one behind the other.
use Rattle.digits.proofs.PutLaws.{two-first, two-second, four-first, four-second, four-third, four-last}

pub ruleset room_for_two = (two-first, two-second)

pub ruleset room_for_four = (four-first, four-second, four-third, four-last)
