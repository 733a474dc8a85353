-- The numbers of the causes for which a capture is not read or written.
use Rattle.std.specs.Prelude.{ℕ}
use Rattle.dp_pcap.specs.declared.error.PcapError.{PcapError}
use Rattle.dp_pcap.specs.declared.error.PcapError.TheVariants.{BadMagic, BadVersion, BadLink, BadTime, TooLong, ShortHeader, TooMany, Read, Write}

-- as it is printed
abbrev pub number_of : PcapError → ℕ
number_of BadMagic = 1
number_of BadVersion = 2
number_of BadLink = 3
number_of BadTime = 4
number_of TooLong = 5
number_of ShortHeader = 6
number_of TooMany = 7
number_of Read = 8
number_of Write = 9
