-- `family_bearing` meets its contract: the definition, family by family.
use Rattle.load_translate.proofs.Reading.{cue_bears, kind_bears, other_bears}
use Rattle.load_translate.proofs.family_bearing.Goals as goal

pub returns-in-Cue : goal.returns-in-Cue
returns-in-Cue c = cue_bears _ c.in-Primary.is c.in-Cue.is c.borne_at.ensures

pub returns-in-Group : goal.returns-in-Group
returns-in-Group c = kind_bears _ c.in-Primary.is c.in-Group.is

pub returns-in-Augments : goal.returns-in-Augments
returns-in-Augments c = other_bears _ c.in-Augments.is
