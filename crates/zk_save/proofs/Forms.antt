-- The form of a saved game.
use Rattle.std.specs.Prelude.{◌&&◌, codes}
use Rattle.std.specs.Str.{bytes_eq}
use Rattle.std.proofs.Common.{◌≡◌, ℕ, ◌+◌, ◌-◌, ◌<◌, ◌≤◌, true, false, List, length, take, drop, Ok, Err, refl, arith}
use Rattle.zk_save.specs.Reading.{number_of, bytes_behind}
use Rattle.zk_save.specs.Loading.{form_in}
use Rattle.zk_save.specs.declared.restore.RestoreError.TheVariants.{NotQuetzal, Truncated}
use Rattle.zk_save.proofs.Cuts.{is_below, not_below}

pub form_short : (file : List ℕ) → length file < 12 → form_in file ≡ Err Truncated
unfolding form_in
form_short file h = rw (is_below (length file) 12 h) refl

pub form_other : (file : List ℕ) → 12 ≤ length file
    → (bytes_eq (take 4 file) (codes "FORM") && bytes_eq (bytes_behind 8 4 file) (codes "IFZS")) ≡ false
    → form_in file ≡ Err NotQuetzal
unfolding form_in
form_other file le h = rw (not_below (length file) 12 le, h) refl

pub form_low : (file : List ℕ) (n : ℕ) → 12 ≤ length file
    → (bytes_eq (take 4 file) (codes "FORM") && bytes_eq (bytes_behind 8 4 file) (codes "IFZS")) ≡ true
    → n ≡ number_of (bytes_behind 4 4 file) → n < 4 → form_in file ≡ Err Truncated
unfolding form_in
form_low file n le h e low = rw (not_below (length file) 12 le, h, ← e, is_below n 4 low) refl

pub form_past : (file : List ℕ) (n : ℕ) → 12 ≤ length file
    → (bytes_eq (take 4 file) (codes "FORM") && bytes_eq (bytes_behind 8 4 file) (codes "IFZS")) ≡ true
    → n ≡ number_of (bytes_behind 4 4 file) → 4 ≤ n → length file < 8 + n → form_in file ≡ Err Truncated
unfolding form_in
form_past file n le h e low past =
    rw (not_below (length file) 12 le, h, ← e, not_below n 4 low, is_below (length file) (8 + n) past) refl

pub form_whole : (file : List ℕ) (n : ℕ) → 12 ≤ length file
    → (bytes_eq (take 4 file) (codes "FORM") && bytes_eq (bytes_behind 8 4 file) (codes "IFZS")) ≡ true
    → n ≡ number_of (bytes_behind 4 4 file) → 4 ≤ n → 8 + n ≤ length file
    → form_in file ≡ Ok (take (8 + n - 12) (drop 12 file))
unfolding form_in
form_whole file n le h e low fits =
    let long : 8 + n - 12 ≡ n - 4 = omega arith in
    rw (not_below (length file) 12 le, h, ← e, not_below n 4 low, not_below (length file) (8 + n) fits, long) refl
