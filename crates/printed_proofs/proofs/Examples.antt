-- The examples of Rules 10.6 and 10.7 hold, from the series and from the file's bytes.
-- Assumes nothing.
use Rattle.printed_proofs.specs.Examples.{Examples}
use Rattle.printed_proofs.proofs.ExampleSheet.{sheet_laid}
use Rattle.printed_proofs.proofs.ExampleLines.{windows_example}
use Rattle.printed_proofs.proofs.ExampleDecision.{decided}
use Rattle.printed_proofs.proofs.ExampleStatement.{statement_example}

pub examples : Examples
examples = record { sheet = sheet_laid; windows = windows_example; decision = decided; statement = statement_example }
