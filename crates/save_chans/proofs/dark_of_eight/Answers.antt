-- `dark_of_eight` meets its contract: by the law of a word's lowest zeros.
use Rattle.save_chans.proofs.Dark.{eight_dark, eight_none}
use Rattle.save_chans.proofs.dark_of_eight.Goals as goal

pub returns-in-0 : goal.returns-in-0
returns-in-0 c = eight_none c.args.eight.now c.told-eight c.fits-eight c.from_le_bytes.ensures c.in-0.is

pub returns-in_default : goal.returns-in_default
returns-in_default c = eight_dark c.args.eight.now c.told-eight c.fits-eight c.from_le_bytes.ensures
