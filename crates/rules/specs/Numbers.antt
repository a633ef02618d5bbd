-- The numbers of document 01, each under one name.
-- Assumes nothing.
use Rattle.std.specs.Prelude.{ℕ, ◌+◌, ◌-◌, ◌*◌, ◌/◌, ◌^◌}

-- "WHOLE is ..": the share of the root
abbrev pub whole : ℕ
whole = 2 ^ 30

-- "bps is .."
abbrev pub bps_least : ℕ
bps_least = 4096

abbrev pub bps_most : ℕ
bps_most = 2 ^ 40

abbrev pub iops_least : ℕ
iops_least = 1

abbrev pub iops_most : ℕ
iops_most = 10 ^ 9

-- a page in bytes, and a second in nanoseconds
abbrev pub page_bytes : ℕ
page_bytes = 4096

abbrev pub second : ℕ
second = 10 ^ 9

-- "Bytes are .."; "first sector is .."
abbrev pub sector_bytes : ℕ
sector_bytes = 512

abbrev pub bytes_most : ℕ
bytes_most = 1048576

abbrev pub sector_most : ℕ
sector_most = 2 ^ 48

-- where a bio of the most bytes at the last sector ends
abbrev pub end_most : ℕ
end_most = sector_most + bytes_most / sector_bytes

-- "Cost = .."
abbrev pub cost_most : ℕ
cost_most = 2 ^ 31

-- "A bio is sequential if .."
abbrev pub near_most : ℕ
near_most = 32768

-- "There are .."
abbrev pub nodes_least : ℕ
nodes_least = 2

abbrev pub nodes_most : ℕ
nodes_most = 64

-- "each other node has .."
abbrev pub weight_least : ℕ
weight_least = 1

abbrev pub weight_most : ℕ
weight_most = 10000

abbrev pub level_most : ℕ
level_most = 8

-- "A tree is thin if .."; a donor's target is no less
abbrev pub share_floor : ℕ
share_floor = 1024

-- "Each leaf has room .."
abbrev pub queue_room : ℕ
queue_room = 8

-- "Fresh state: .."; "vrate is set .."
abbrev pub vrate_fresh : ℕ
vrate_fresh = 100

abbrev pub vrate_least : ℕ
vrate_least = 1

abbrev pub vrate_most : ℕ
vrate_most = 400

-- "last, if it owes nothing .."
abbrev pub idle_cap : ℕ
idle_cap = 2 ^ 27

-- the limits of refusals 8, 10, 11 and 12
abbrev pub debt_most : ℕ
debt_most = 2 ^ 40

abbrev pub elapsed_most : ℕ
elapsed_most = 10 ^ 9

abbrev pub vtime_most : ℕ
vtime_most = 2 ^ 60

abbrev pub since_most : ℕ
since_most = 2 ^ 33

-- a leaf is no root, so leaves are the nodes 1 to 63
abbrev pub leaf_most : ℕ
leaf_most = nodes_most - 1

-- 63 leaves with 8 waiting bios each
abbrev pub waiting_most : ℕ
waiting_most = leaf_most * queue_room

-- ---- what a line takes at most: a refusal, R, two digits and a node of twenty, whatever number of 64 bits it is; an id of ten
-- digits; a leaf of two and its share of ten
abbrev pub refusal_room : ℕ
refusal_room = 26

abbrev pub id_room : ℕ
id_room = 13

abbrev pub share_room : ℕ
share_room = 16

-- all leaves' shares, and the most that one record prints: a line r for each bio that can wait
abbrev pub shares_room : ℕ
shares_room = leaf_most * share_room

abbrev pub line_room : ℕ
line_room = waiting_most * id_room

-- ---- the letters I, W and D of the replay's lines: issued, waits, on debt
abbrev pub letter_I : ℕ
letter_I = 73

abbrev pub letter_W : ℕ
letter_W = 87

abbrev pub letter_D : ℕ
letter_D = 68
