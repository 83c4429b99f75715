-- `text_fields::is_delimiter` meets its contract: the tests that led to each answer, by the laws of classes.
use Rattle.text_fields.proofs.Classes.{delimiter_low, delimiter_past, delimiter_bit}
use Rattle.std.proofs.Common.{rules}
use Rattle.text_fields.proofs.is_delimiter.Goals as goal

pub returns-then-c-lt-FIRST_DELIMITER : goal.returns-then-c-lt-FIRST_DELIMITER
returns-then-c-lt-FIRST_DELIMITER c = delimiter_low c.args.c (search rules) c.if-c-lt-FIRST_DELIMITER.true

pub returns-then-c-gt-LAST_DELIMITER : goal.returns-then-c-gt-LAST_DELIMITER
returns-then-c-gt-LAST_DELIMITER c = delimiter_past c.args.c (search rules) c.if-c-lt-FIRST_DELIMITER.false c.if-c-gt-LAST_DELIMITER.true

pub returns : goal.returns
returns c = delimiter_bit c.args.c (search rules) c.if-c-lt-FIRST_DELIMITER.false c.if-c-gt-LAST_DELIMITER.false
