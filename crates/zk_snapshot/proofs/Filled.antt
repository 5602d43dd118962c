-- What filling memory and frames leaves alone.
use Rattle.std.proofs.Common.{◌≡◌, ℕ, Bool, true, false, List, Ok, Err, refl, ap, sym, nat_lt}
use Rattle.zk_mem.specs.declared.memory.Setup.{Setup}
use Rattle.zk_mem.specs.Fresh.{fresh}
use Rattle.zk_mem.specs.Map.{MemoryMap, byte_put, readable_end, with_byte}
use Rattle.zk_mem.specs.declared.fault.Fault.TheVariants.{BadAddress, ReadOnly}
use Rattle.zk_state.specs.Frames.{FrameList, bounds_of, first_frames}
use Rattle.zk_step.specs.Laws.{fixed_parts}
use Rattle.std.specs.Prelude.{if◌then◌else◌}

put_by : (m n : MemoryMap) (a v : ℕ) (p q : Bool)
    → (if p then (if q then Ok (with_byte m a v) else Err ReadOnly) else Err BadAddress) ≡ Ok n
    → fixed_parts n ≡ fixed_parts m
unfolding fixed_parts
put_by m n a v true true h = let same : with_byte m a v ≡ n = cc in sym (ap fixed_parts same)
put_by m n a v true false h = absurd cc
put_by m n a v false q h = absurd cc

pub byte_fixed : (m n : MemoryMap) (a v : ℕ) → byte_put m a v ≡ Ok n → fixed_parts n ≡ fixed_parts m
unfolding byte_put
byte_fixed m n a v h = put_by m n a v (nat_lt a (readable_end m)) (nat_lt a m.static_base) h

pub fresh_file : (file : List ℕ) (setup : Setup) → (fresh file setup).file ≡ file
unfolding fresh
fresh_file file setup = refl

pub fresh_setup : (file : List ℕ) (setup : Setup) → (fresh file setup).setup ≡ setup
unfolding fresh
fresh_setup file setup = refl

pub same_file : (m n : MemoryMap) → fixed_parts n ≡ fixed_parts m → n.file ≡ m.file
unfolding fixed_parts
same_file m n e = ap (λ (p : (ℕ × ℕ) × (List ℕ × Setup)). p.1.0) e

pub same_setup : (m n : MemoryMap) → fixed_parts n ≡ fixed_parts m → n.setup ≡ m.setup
unfolding fixed_parts
same_setup m n e = ap (λ (p : (ℕ × ℕ) × (List ℕ × Setup)). p.1.1) e

pub same_base : (m n : MemoryMap) → fixed_parts n ≡ fixed_parts m → n.static_base ≡ m.static_base
unfolding fixed_parts
same_base m n e = ap (λ (p : (ℕ × ℕ) × (List ℕ × Setup)). p.0.1) e

pub first_bounds : (f : FrameList) → bounds_of (first_frames f.most_frames f.most_words) ≡ bounds_of f
unfolding bounds_of
first_bounds f = refl

pub made_bounds : (f : FrameList) (frames words : ℕ) → f ≡ first_frames frames words → bounds_of f ≡ (frames, words)
unfolding bounds_of
made_bounds f frames words e = ap (λ (x : FrameList). (x.most_frames, x.most_words)) e
