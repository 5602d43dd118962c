-- The page of a story: that of zkit, with the story in it.
use Rattle.std.specs.Prelude.{◌≡◌, ℕ, List, [], ◌∷◌, ◌++◌, codes, nat_eq, if◌then◌else◌}
use Rattle.std.specs.List.{flat_map}
use Rattle.base64.specs.Engines.{standard}
use Rattle.base64.specs.GeneralPurpose.{encode_of}
use Rattle.zk_page.specs.declared.page.Part.{Part}

-- what a page has where its title stands, and where the parts of a story do
abbrev pub title_place : List ℕ
title_place = codes "<title>zkit</title>"

abbrev pub parts_place : List ℕ
parts_place = codes "<script type=\"text/plain\" id=\"own\"></script>"

-- how the part of a name begins
abbrev pub part_start : List ℕ → List ℕ
part_start name = codes "<script type=\"text/plain\" id=\"own-" ++ name ++ codes "\">"

-- a part: bytes under a name, as base64 (RFC 4648, section 4)
unfoldable pub part_text : Part → List ℕ
part_text p = part_start p.name.now ++ encode_of standard p.content.now ++ codes "</script>"

abbrev pub parts_text : List Part → List ℕ
parts_text parts = flat_map part_text parts

-- a byte of a text in a page (HTML, section 13.1.2.6: these begin character references and tags)
abbrev pub byte_text : ℕ → List ℕ
byte_text b =
    if nat_eq b 38 then codes "&amp;"
    else if nat_eq b 60 then codes "&lt;"
    else if nat_eq b 62 then codes "&gt;"
    else b ∷ []

abbrev pub title_text : List ℕ → List ℕ
title_text title = codes "<title>" ++ flat_map byte_text title ++ codes "</title>"

-- a page that has both places, with the title and the parts there
pub record IsPageOf (template title : List ℕ) (parts : List Part) (page : List ℕ) : Type 0 where
  pub before : List ℕ
  pub between : List ℕ
  pub after : List ℕ
  pub template_is : template ≡ before ++ (title_place ++ (between ++ (parts_place ++ after)))
  pub page_is : page ≡ before ++ (title_text title ++ (between ++ (parts_text parts ++ after)))

-- the bytes that HTML would read as its own
abbrev pub TitlesAreText : Type 0
TitlesAreText =
    (title_text (codes "A <b> & c") ≡ codes "<title>A &lt;b&gt; &amp; c</title>")
    × (title_text [] ≡ codes "<title></title>")
