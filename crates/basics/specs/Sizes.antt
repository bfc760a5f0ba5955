-- The sizes of the code's arrays, made from the numbers of the definitions. src/numbers.rt makes them from the code's.
use Rattle.std.specs.Prelude.{ℕ, suc, ◌*◌}
use Rattle.format.specs.Syntax.{concurrent, sequential}
use Rattle.format.specs.Rules.{limits, max_labels}

-- the label map: four numbers for each label, and label 0 is a finished thread
abbrev pub map_words : ℕ
map_words = 4 * suc max_labels

-- the first and the last label of each procedure of a concurrent table
abbrev pub bound_words : ℕ
bound_words = 2 * (limits concurrent).procs

-- ---- frames

-- no procedure runs twice in a thread: at most as many frames as procedures, and one above them for the arguments of a call
abbrev pub thread_frames : ℕ
thread_frames = suc (limits concurrent).procs

-- "T not 1..32"
abbrev pub most_threads : ℕ
most_threads = (limits concurrent).threads

-- the frames of all threads
abbrev pub all_frames : ℕ
all_frames = most_threads * thread_frames

-- the frames of a sequential table's run, in the same way
abbrev pub stack_frames : ℕ
stack_frames = suc (limits sequential).procs

-- the words of a frame: "locals over 16 (sequential 32)"
abbrev pub frame_words : ℕ
frame_words = (limits sequential).locals

-- and of all
abbrev pub local_words : ℕ
local_words = frame_words * stack_frames

-- of the frames of all threads
abbrev pub thread_words : ℕ
thread_words = frame_words * all_frames

-- ---- memory

-- "M over 512"
abbrev pub most_locations : ℕ
most_locations = (limits sequential).places

-- a first cell for each location, and the number of all cells
abbrev pub start_words : ℕ
start_words = suc most_locations

-- "all sizes together over .. (sequential 16,384)"
abbrev pub cell_words : ℕ
cell_words = (limits sequential).cells

-- "all sizes together over 2,048"
abbrev pub program_words : ℕ
program_words = (limits concurrent).cells

-- ---- tables

-- the positions of the longest table
abbrev pub positions : ℕ
positions = (limits sequential).bytes

-- the first length that is too long
abbrev pub too_long : ℕ
too_long = suc positions
