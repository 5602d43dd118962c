-- What a file is that is no story, by its first bytes: those of Blorb (2.0.4), Glulx (3.1.3, section 1.4), gzip
-- (RFC 1952) and zip files.
use Rattle.std.specs.Prelude.{ℕ, ◌==◌, ◌&&◌, ◌||◌, Bool, false, List, [], ◌∷◌, ◌++◌, take, codes, nat_le}
use Rattle.std.specs.Prelude.{if◌then◌else◌, Option, Some, None}
use Rattle.std.specs.List.{list_all, starts_with}
use Rattle.zk_blorb.specs.Blorb.{begins_as_blorb}
use Rattle.zk_blorb.specs.declared.looks.Looks.{Looks}
use Rattle.zk_blorb.specs.declared.looks.Looks.TheVariants.{Unknown, Blorb, Glulx, Gzip, Zip, Text}

-- a byte may stand in a text: a tab, a line's end, a sign of ASCII, or a part of another character
abbrev pub is_of_text : ℕ → Bool
is_of_text byte =
    byte == 9 || (byte == 10 || (byte == 13 || ((nat_le 32 byte && nat_le byte 126) || nat_le 128 byte)))

-- bytes are those of a text: some, each of which may stand in one
abbrev pub is_text : List ℕ → Bool
is_text [] = false
is_text (b ∷ bs) = list_all is_of_text (b ∷ bs)

-- what a file looks like by its letters: a text is told by 64 bytes
abbrev pub text_looks : List ℕ → Looks
text_looks file = if is_text (take 64 file) then Text else Unknown

-- what a file looks like that is no Blorb file: the first that fits
abbrev pub other_looks : List ℕ → Looks
other_looks file =
    if starts_with ◌==◌ file (codes "Glul") then Glulx
    else if starts_with ◌==◌ file (0x1f ∷ 0x8b ∷ []) then Gzip
    else if starts_with ◌==◌ file (codes "PK" ++ 3 ∷ 4 ∷ []) then Zip
    else text_looks file

-- what a file looks like
abbrev pub looks_of : List ℕ → Looks
looks_of file = if begins_as_blorb file then Blorb else other_looks file

-- what a file is, in words
abbrev pub looks_text : Looks → Option (List ℕ)
looks_text Unknown = None
looks_text Blorb = Some (codes "it is a Blorb file: `zkit unpack FILE OUT` takes the story out")
looks_text Glulx = Some (codes "it is a Glulx story, which is for another machine")
looks_text Gzip = Some (codes "it is compressed by gzip; unpack it")
looks_text Zip = Some (codes "it is a zip archive; unpack it")
looks_text Text = Some (codes "it is a text file")
