-- The feed and the sink in memory: what each call returns, and the state after it.
use Rattle.std.specs.Prelude.{ℕ, ◌+◌, ◌-◌, ◌^◌, ◌==◌, min, max, Bool, ◌||◌, if◌then◌else◌, List, [], ◌++◌, length, take, drop, slice_get, Option, Some, None, is_none, is_some, unwrap_or, option_map}
use Rattle.std.specs.List.{list_any}
use Rattle.pact_outside.specs.declared.files.NamedFile.{NamedFile}
use Rattle.pact_outside.specs.Outside.{Feeding, file_named}

-- the next value of a 64-bit count, which stays at its greatest value
abbrev pub next_count : ℕ → ℕ
next_count n = min (n + 1) (2 ^ 64 - 1)

-- whether the call with that number is one of those that fail
abbrev pub is_listed : List ℕ → ℕ → Bool
is_listed fail call = list_any (λ number. number == call) fail

-- the bytes of the file at a place
abbrev pub bytes_at : List NamedFile → ℕ → List ℕ
bytes_at files place = unwrap_or (option_map (λ file. file.bytes) (slice_get files place)) []

pub record FeedState : Type 0 where
  pub files : List NamedFile
  pub most : ℕ
  pub fail : List ℕ
  pub calls : ℕ
  pub name : List ℕ
  pub left : Option (List ℕ)
  pub faults : ℕ

-- its files are known; of the names given to `open` only the last is, since it keeps no others
abbrev pub shown_from_memory : FeedState → Feeding
shown_from_memory feed = record { files = Some feed.files; left = feed.left; history = None; opened = feed.name; is_open = is_some feed.left; faults = feed.faults }

-- a feed before its first call
abbrev pub new_feed : List NamedFile → ℕ → List ℕ → FeedState
new_feed files most fail = record { files = files; most = most; fail = fail; calls = 0; name = []; left = None; faults = 0 }

-- an open fails at a listed number, and if no file has the name
abbrev pub open_fails : FeedState → List ℕ → Bool
open_fails feed name = is_listed feed.fail (next_count feed.calls) || is_none (file_named feed.files name)

abbrev pub after_open : FeedState → List ℕ → FeedState
after_open feed name = record feed {
  calls = next_count feed.calls;
  name = name;
  left = if open_fails feed name then None else file_named feed.files name;
  faults = if open_fails feed name then next_count feed.faults else feed.faults;
}

-- a read of an open file fails at a listed number
abbrev pub read_fails : FeedState → Bool
read_fails feed = is_listed feed.fail (next_count feed.calls)

-- how many bytes a read into a buffer of that length returns
abbrev pub read_count : FeedState → ℕ → ℕ
read_count feed room = min room (min feed.most (length (unwrap_or feed.left [])))

-- a buffer after a read: the bytes returned, and then what it held after their places
abbrev pub buffer_after_read : FeedState → List ℕ → List ℕ
buffer_after_read feed buf = take (read_count feed (length buf)) (unwrap_or feed.left []) ++ drop (read_count feed (length buf)) buf

abbrev pub after_read : FeedState → ℕ → FeedState
after_read feed room = record feed {
  calls = next_count feed.calls;
  left = if read_fails feed then None else option_map (drop (read_count feed room)) feed.left;
  faults = if read_fails feed then next_count feed.faults else feed.faults;
}

pub record SinkState : Type 0 where
  pub taken : List ℕ
  pub room : ℕ
  pub most : ℕ
  pub fail : List ℕ
  pub calls : ℕ
  pub faults : ℕ

-- a sink before its first call
abbrev pub new_sink : ℕ → List ℕ → SinkState
new_sink most fail = record { taken = []; room = 0; most = most; fail = fail; calls = 0; faults = 0 }

abbrev pub after_reserve : SinkState → ℕ → SinkState
after_reserve sink bytes = record sink { room = max sink.room bytes }

-- a write fails at a listed number, and if no room is left
abbrev pub write_fails : SinkState → Bool
write_fails sink = is_listed sink.fail (next_count sink.calls) || (sink.room == 0)

-- how many bytes of a piece a write takes
abbrev pub write_count : SinkState → List ℕ → ℕ
write_count sink piece = min (length piece) (min sink.most sink.room)

abbrev pub after_write : SinkState → List ℕ → SinkState
after_write sink piece = record sink {
  taken = if write_fails sink then sink.taken else sink.taken ++ take (write_count sink piece) piece;
  room = if write_fails sink then sink.room else sink.room - write_count sink piece;
  calls = next_count sink.calls;
  faults = if write_fails sink then next_count sink.faults else sink.faults;
}
