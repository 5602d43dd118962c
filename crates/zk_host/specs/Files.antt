-- What is told of a file before a story is opened.
use Rattle.std.specs.Prelude.{◌≡◌, ℕ, List, Result, Ok, Err}
use Rattle.zk_blorb.specs.declared.story.BlorbError.{BlorbError}
use Rattle.zk_blorb.specs.declared.story.BlorbError.TheVariants.{NoBlorb}
use Rattle.zk_host.specs.Exports.{IsPut}

-- why no story is taken out of a file
abbrev pub blorb_number : BlorbError → ℕ
blorb_number NoBlorb = 8
blorb_number error = 9

-- the story of a Blorb file was put at the front of a buffer, or there is none, and then the buffer is as it was
abbrev pub IsStoryPut : Result (List ℕ) BlorbError → List ℕ → List ℕ → ℕ → ℕ → ℕ → Type 0
IsStoryPut (Ok story) before after length_before length_after n = IsPut story before after length_before length_after n
IsStoryPut (Err error) before after length_before length_after n =
    (n ≡ blorb_number error) × (after ≡ before) × (length_after ≡ length_before)
