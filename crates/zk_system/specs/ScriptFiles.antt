-- What is known of the file of a transcript, by whether one is named.
use Rattle.std.specs.Prelude.{Bool, false, Option, Some, None}

-- where none is named no write fails; else one has failed or not
abbrev pub failed_in : {P : Type 0} → Option P → Bool → Bool
failed_in {P} None failed = false
failed_in {P} (Some path) failed = failed
