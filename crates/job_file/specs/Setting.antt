-- The options of the profile: their names, and the values that they take.
use Rattle.std.specs.Prelude.{ℕ, Bool, true, false, ◌&&◌, ◌||◌, nat_lt, nat_le, List, length, drop, Option}
use Rattle.std.specs.Prelude.{Some, None, option_map, option_and_then, bytes_eq, codes, if◌then◌else◌}
use Rattle.std.specs.Option.{option_or}
use Rattle.std.specs.List.{list_all}
use Rattle.fc_base.specs.declared.record.Verify as verifies
use Rattle.fc_base.specs.declared.record.Verify.TheVariants.{Stamp, Pattern}
use Rattle.job_file.specs.declared.option.OptionName.{OptionName}
use Rattle.job_file.specs.declared.option.OptionName.TheVariants.{ReadWrite, BlockSize, Size, IoSize, NumberIos, IoDepth, XWindow, NumJobs, RandSeed}
use Rattle.job_file.specs.declared.option.OptionName.TheVariants.{NoRandomMap, Verify, VerifyPattern, VerifyFatal, VerifyStateSave, VerifyStateLoad, Filename}
use Rattle.job_file.specs.declared.option.ReadWrite as values
use Rattle.job_file.specs.declared.option.ReadWrite.TheVariants.{Read, Write, RandRead, RandWrite}
use Rattle.job_file.specs.declared.option.Setting.{Setting}
use Rattle.job_file.specs.declared.option.Setting.TheVariants as set
use Rattle.job_file.specs.Bytes.{is_text_byte}
use Rattle.job_file.specs.Number.{numeral, is_hexadecimal, number_of}

-- What a job writes or reads, and how much of it.
abbrev pub size_option : List ℕ → Option OptionName
size_option name =
    if bytes_eq name (codes "rw") || bytes_eq name (codes "readwrite") then Some ReadWrite else (
    if bytes_eq name (codes "bs") || bytes_eq name (codes "blocksize") then Some BlockSize else (
    if bytes_eq name (codes "size") then Some Size else (
    if bytes_eq name (codes "io_size") then Some IoSize else (
    if bytes_eq name (codes "number_ios") then Some NumberIos else None))))

-- In which order, how many at a time, and by how many jobs.
abbrev pub order_option : List ℕ → Option OptionName
order_option name =
    if bytes_eq name (codes "iodepth") then Some IoDepth else (
    if bytes_eq name (codes "x_window") then Some XWindow else (
    if bytes_eq name (codes "numjobs") then Some NumJobs else (
    if bytes_eq name (codes "randseed") then Some RandSeed else (
    if bytes_eq name (codes "norandommap") then Some NoRandomMap else (
    if bytes_eq name (codes "filename") then Some Filename else None)))))

-- What is written into the blocks, and how it is checked.
abbrev pub verify_option : List ℕ → Option OptionName
verify_option name =
    if bytes_eq name (codes "verify") then Some Verify else (
    if bytes_eq name (codes "verify_pattern") then Some VerifyPattern else (
    if bytes_eq name (codes "verify_fatal") then Some VerifyFatal else (
    if bytes_eq name (codes "verify_state_save") then Some VerifyStateSave else (
    if bytes_eq name (codes "verify_state_load") then Some VerifyStateLoad else None))))

-- The option of a name: some have two spellings.
abbrev pub option_named : List ℕ → Option OptionName
option_named name =
    option_or (size_option name) (option_or (order_option name) (verify_option name))

-- Options of fio's engines, which have no effect here.
abbrev pub is_engine_option : List ℕ → Bool
is_engine_option name =
    bytes_eq name (codes "ioengine") || bytes_eq name (codes "direct") || bytes_eq name
    (codes "thread") || bytes_eq name (codes "serialize_overlap")

-- Options of fio's reports, and one that says what is always so here.
abbrev pub is_report_option : List ℕ → Bool
is_report_option name =
    bytes_eq name (codes "group_reporting") || bytes_eq name (codes "description") || bytes_eq name
    (codes "do_verify")

-- The options that are accepted and have no effect.
abbrev pub is_ignored : List ℕ → Bool
is_ignored name = is_engine_option name || is_report_option name

-- The values of `rw`.
abbrev pub read_write_of : List ℕ → Option values.ReadWrite
read_write_of value =
    if bytes_eq value (codes "read") then Some Read else (
    if bytes_eq value (codes "write") then Some Write else (
    if bytes_eq value (codes "randread") then Some RandRead else (
    if bytes_eq value (codes "randwrite") then Some RandWrite else None)))

-- A switch is 0 or 1.
abbrev pub switch_of : List ℕ → Option Bool
switch_of value =
    if bytes_eq value (codes "0") then Some false else (
    if bytes_eq value (codes "1") then Some true else None)

-- A switch without a value is on.
abbrev pub switch_or_on : Option (List ℕ) → Option Bool
switch_or_on None = Some true
switch_or_on (Some value) = switch_of value

-- A number of copies is at least 1.
abbrev pub copies_of : List ℕ → Option ℕ
copies_of value = option_and_then (λ n. if nat_lt 0 n then Some n else None) (number_of value)

-- The names of fio's cyclic checksums.
abbrev pub is_crc : List ℕ → Bool
is_crc value =
    bytes_eq value (codes "crc64") || bytes_eq value (codes "crc32c") || bytes_eq value
    (codes "crc32c-intel")
    || (bytes_eq value (codes "crc32") || bytes_eq value (codes "crc16") || bytes_eq value
    (codes "crc7"))

-- The names of fio's other checksums.
abbrev pub is_digest : List ℕ → Bool
is_digest value =
    bytes_eq value (codes "md5") || bytes_eq value (codes "xxhash") || bytes_eq value (codes "meta")
    || (bytes_eq value (codes "sha512") || bytes_eq value (codes "sha256") || bytes_eq value
    (codes "sha1"))

-- What `verify` asks for: a pattern, or by any checksum's name the stamp.
abbrev pub verify_of : List ℕ → Option verifies.Verify
verify_of value =
    if bytes_eq value (codes "pattern") then Some Pattern else (
    if is_crc value || is_digest value then Some Stamp else None)

-- A pattern is `0x` and one or two hexadecimal digits.
abbrev pub pattern_of : List ℕ → Option ℕ
pattern_of value =
    if is_hexadecimal value && nat_le (length value) 4 then numeral 16 (drop 2 value) else None

-- A file's name is any text.
abbrev pub filename_of : List ℕ → Option (List ℕ)
filename_of value =
    if nat_lt 0 (length value) && list_all is_text_byte value then Some value else None

-- A value that an option has to have.
abbrev pub required_value : {X : Type 0} → (List ℕ → Option X) → (X → Setting) → Option (List ℕ)
    → Option Setting
required_value value_of setting None = None
required_value value_of setting (Some value) = option_map setting (value_of value)

-- An option with the value behind its `=`.
abbrev pub setting_of : OptionName → Option (List ℕ) → Option Setting
setting_of ReadWrite value = required_value read_write_of set.ReadWrite value
setting_of BlockSize value = required_value number_of set.BlockSize value
setting_of Size value = required_value number_of set.Size value
setting_of IoSize value = required_value number_of set.IoSize value
setting_of NumberIos value = required_value number_of set.NumberIos value
setting_of IoDepth value = required_value number_of set.IoDepth value
setting_of XWindow value = required_value number_of set.XWindow value
setting_of NumJobs value = required_value copies_of set.NumJobs value
setting_of RandSeed value = required_value number_of set.RandSeed value
setting_of NoRandomMap value = option_map set.NoRandomMap (switch_or_on value)
setting_of Verify value = required_value verify_of set.Verify value
setting_of VerifyPattern value = required_value pattern_of set.VerifyPattern value
setting_of VerifyFatal value = option_map set.VerifyFatal (switch_or_on value)
setting_of VerifyStateSave value = option_map set.VerifyStateSave (switch_or_on value)
setting_of VerifyStateLoad value = option_map set.VerifyStateLoad (switch_or_on value)
setting_of Filename value = required_value filename_of set.Filename value
